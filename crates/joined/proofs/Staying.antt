-- Nodes of the list before that still occur are seen by the list after.
use Rattle.std.proofs.Common.{◌≡◌, ◌∙◌, ℕ, List, [], ◌∷◌, sym, ap, subst, inl, inr}
use Rattle.std.specs.Prelude.{Option, Some, None, MatchOption, ◌≢◌}
use Rattle.std.specs.List.{Contains}
use Rattle.std.proofs.lemmas.List.Elements.{All-contains}
use Rattle.tmm_model.specs.declared.point.PointName.{PointName}
use Rattle.tmm_model.specs.declared.point.PointName.TheVariants.{Begin, End}
use Rattle.tmm_model.specs.declared.premise.Edit.{Edit}
use Rattle.tmm_model.specs.declared.token.Shape.TheVariants.{Span as ASpan}
use Rattle.tmm_model.specs.Beliefs.{is_of, roots}
use Rattle.tmm_model.specs.Edits.{next_list}
use Rattle.tmm_model.specs.Moments.{Moment, At, After, RuleText, along, rule_of}
use Rattle.tmm_model.specs.Standing.{Standing, points_in}
use Rattle.belief_theory.specs.Right.{Occurs}
use Rattle.list_theory.proofs.Elements.{In, In-from_Contains, Contains-from_In}
use Rattle.walk_theory.proofs.Members.{All-from_contains, Contains-map}
use Rattle.dist_net.specs.Net.{Net}
use Rattle.net_theory.specs.Fits.{IsNetOf}
use Rattle.net_theory.specs.KeptNumbers.{PointsKeepNumbers}
use Rattle.net_theory.specs.Represents.{IsNumberOf}
use Rattle.spots.specs.declared.link.Link.{Link}
use Rattle.spots.specs.Forest.{Forest, Member, member, moment, rules_of}
use Rattle.spots.specs.OfLists.{IsForestOf, IsMemberOf, IsLinkOf}
use Rattle.spots.proofs.Nodes.{base-moment}
use Rattle.revisions.specs.Alike.{IsAnchor}
use Rattle.revisions.proofs.Alike.{span_at}
use Rattle.revisions.proofs.Lawful.{text}
use Rattle.revisions.proofs.StillEdits.{anchor_point, base_root}
use Rattle.revisions.proofs.Tokens.{is_of_stays, class_for_stays}

-- what is led to from an occurrence occurs only where that does
occurs_first : (s : Standing) (x : Moment) (rs : List (List ℕ)) → Occurs s (along x rs) → Occurs s x
occurs_first s x [] h = h
occurs_first s x (r ∷ rs) h = (occurs_first s (After x r) rs h).0

module _ (old : Standing) (edit : Edit) (net after : Net) (f : Forest) (seen : IsForestOf old net f) (network : IsNetOf (next_list old edit) after)
    (keep : PointsKeepNumbers (points_in (next_list old edit).premises) net.names after.names)
    (occurs : (x : ℕ) (m : Member) → member f x ≡ Some m → Occurs (next_list old edit) (moment m)) where
  abbrev new : Standing
  new = next_list old edit

  -- the rules on the way to an occurrence of both say the same in both
  way_stays : (t : Moment) (rs : List (List ℕ)) → Occurs old (along t rs) → Occurs new (along t rs) → (r : List ℕ) → In r rs → rule_of old r ≡ rule_of new r
  way_stays t [] before now r at = absurd at
  way_stays t (q ∷ rs) before now r (inl is) =
      let first = text old edit seen.network.sound network.sound t q (occurs_first old (After t q) rs before).1 (occurs_first new (After t q) rs now).1 in
      subst (λ z. rule_of old z ≡ rule_of new z) is first
  way_stays t (q ∷ rs) before now r (inr at) = way_stays (After t q) rs before now r at

  number_stays : (n : ℕ) (p : PointName) → IsAnchor new p → IsNumberOf net.names n p → IsNumberOf after.names n p
  number_stays n p at is = keep n p (Contains-from_In (points_in new.premises) p (anchor_point new p at)) is

  end_stays : (m : Member) → is_of new (moment m) ≡ Some (m.shape, m.what) → (o : Option ℕ) → MatchOption o (m.shape ≢ ASpan) (λ e. (m.shape ≡ ASpan) × IsNumberOf net.names e (End m.root))
      → MatchOption o (m.shape ≢ ASpan) (λ e. (m.shape ≡ ASpan) × IsNumberOf after.names e (End m.root))
  end_stays m is None h = h
  end_stays m is (Some e) h =
      (h.0, number_stays e (End m.root) (m.what, span_at new (moment m) m.root m.what (base-moment m) (is ∙ ap (λ shape. Some (shape, m.what)) h.0)) h.1)

  member_stays : (x : ℕ) (m : Member) → member f x ≡ Some m → IsMemberOf new after.names m
  member_stays x m at =
      let own = seen.members x m at in
      let now = occurs x m at in
      let same = is_of_stays old edit seen.network.sound network.sound (moment m) own.occurs now in
      record {
        occurs = now;
        begin = number_stays m.begin (Begin m.root) (subst (λ p. Contains (roots new) (At p)) (base-moment m) (base_root new (moment m) now)) own.begin;
        «end» = end_stays m (sym same ∙ own.is) m.end own.end;
        links = All-from_contains (IsLinkOf new) m.links (λ l there.
            (let link : IsLinkOf old l = All-contains (IsLinkOf old) m.links l own.links there in
            let same_rule : rule_of old l.rule ≡ rule_of new l.rule = way_stays (At (Begin m.root)) (rules_of m) own.occurs now l.rule (In-from_Contains (rules_of m) l.rule (Contains-map (λ (k : Link). k.rule) m.links l there)) in
            record { lo = ap (λ (z : RuleText). z.lo) (sym same_rule) ∙ link.lo; hi = ap (λ (z : RuleText). z.hi) (sym same_rule) ∙ link.hi }));
        is = sym same ∙ own.is;
        class = own.class ∙ class_for_stays old edit seen.network.sound network.sound (moment m) own.occurs now m.shape m.what own.is;
      }

  pub stay_seen : IsForestOf (next_list old edit) after f
  stay_seen = record { network = network; members = member_stays; once = seen.once }
