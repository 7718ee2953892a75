-- The occurrences of nodes that are gone.
use Rattle.std.proofs.Common.{◌≡◌, ℕ, Bool, true, false, List, [], ◌∷◌, map, refl, sym, ◌∙◌, ap, subst}
use Rattle.std.specs.Prelude.{◌&&◌, Option, Some, None}
use Rattle.std.specs.Option.{is_none}
use Rattle.std.specs.List.{Contains}
use Rattle.tmm_model.specs.declared.point.PointName.{PointName}
use Rattle.tmm_model.specs.Moments.{Moment, At, After, along, is_derived, moment_of}
use Rattle.spots.specs.Forest.{Forest, member, IsLive, moment_at}
use Rattle.belief_list.specs.declared.left_nodes.LeftNode.{LeftNode}
use Rattle.belief_list.specs.LeftNodes.{AreWords, if_derived}

-- ---- what is told of nodes that are gone

led_to : (t : Moment) (rs : List (List ℕ)) → is_derived t ≡ true → is_derived (along t rs) ≡ true
led_to t [] e = e
led_to t (r ∷ rs) e = led_to (After t r) rs refl

pub if_some : (p : PointName) (rs : List (List ℕ)) → (rs ≡ [] → ⊥) → if_derived (along (At p) rs) ≡ Some (along (At p) rs)
if_some p [] some = absurd (some refl)
if_some p (r ∷ rs) some = ap (λ b. elim b as (λ _. Option Moment) [ true ↦ Some (along (At p) (r ∷ rs)) | false ↦ None ]) (led_to (After (At p) r) rs refl)

-- the occurrence of a node of the old forest, if it is derived and the node is gone
abbrev pub gone_at : Forest → Forest → ℕ → Option Moment
gone_at old new x = elim (is_derived (moment_at old x) && is_none (member new x)) [ true ↦ Some (moment_at old x) | false ↦ None ]

module _ (old new : Forest) (left : List LeftNode) (words : AreWords old new left) (x : ℕ) (live : IsLive old x) (gone : member new x ≡ None) where
  -- what is told of a node is its occurrence
  pub told_at : (n : LeftNode) → Contains left n → n.node ≡ x → gone_at old new x ≡ if_derived (moment_of n.occ.now)
  told_at n there same =
      let own : moment_of n.occ.now ≡ moment_at old x = words.own n there (subst (IsLive old) (sym same) live, ap (member new) same ∙ gone) ∙ ap (moment_at old) same in
      ap (λ o. elim (is_derived (moment_at old x) && is_none o) as (λ _. Option Moment) [ true ↦ Some (moment_at old x) | false ↦ None ]) gone
      ∙ by (is_derived (moment_at old x))
      ∙ ap if_derived (sym own)
    where
      by : (b : Bool) → elim (b && true) as (λ _. Option Moment) [ true ↦ Some (moment_at old x) | false ↦ None ] ≡ elim b [ true ↦ Some (moment_at old x) | false ↦ None ]
      by true = refl
      by false = refl

  -- nothing is told only of what no rule brings about
  pub untold_at : (Contains (map (λ n. n.node) left) x → ⊥) → gone_at old new x ≡ None
  untold_at untold = by (is_derived (moment_at old x)) refl
    where
      by : (b : Bool) → is_derived (moment_at old x) ≡ b → gone_at old new x ≡ None
      by true e = absurd (untold (words.all x (live, gone) e))
      by false e = ap (λ b. elim (b && is_none (member new x)) as (λ _. Option Moment) [ true ↦ Some (moment_at old x) | false ↦ None ]) e
