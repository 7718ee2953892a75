-- Tokens taken to other spots with the same distances last, support and clip as before.
use Rattle.std.proofs.Common.{◌≡◌, ℕ, not, ◌&&◌, ◌||◌, List, [], ◌∷◌, map, refl, ap, inl, inr}
use Rattle.std.specs.Prelude.{Option, Some, None, pos, negsuc}
use Rattle.std.specs.List.{list_any}
use Rattle.std.specs.Option.{option_map, ForSome}
use Rattle.tmm_model.specs.declared.bound.Bound.{Bound}
use Rattle.tmm_model.specs.declared.token.TokenRow.{TokenRow}
use Rattle.tmm_model.specs.Bounds.{bound_at_most}
use Rattle.tmm_model.specs.Points.{same_name}
use Rattle.tmm_model.specs.Tokens.{of_one_class, clips, cuts, is_by, is_before, lasts_to, supports}
use Rattle.list_theory.proofs.Elements.{In}
use Rattle.clipping.specs.Live.{IsLive}

module _ {P Q : Type 0} (go : P → Q) (far : P → P → Bound) (gap : Q → Q → Bound) (live : P → Type 0)
    (alike : (p q : P) → live p → live q → far p q ≡ gap (go p) (go q)) where
  abbrev pub moved : TokenRow P → TokenRow Q
  moved k = record { spot = go k.spot; end = option_map go k.end; fact = k.fact; class = k.class }

  pub by_alike : (x y : P) → live x → live y → is_by far x y ≡ is_by gap (go x) (go y)
  by_alike x y lx ly = ap (λ d. bound_at_most d (pos 0)) (alike y x ly lx)

  pub before_alike : (x y : P) → live x → live y → is_before far x y ≡ is_before gap (go x) (go y)
  before_alike x y lx ly = ap (λ d. bound_at_most d (negsuc 0)) (alike y x ly lx)

  pub clips_alike : (k c : TokenRow P) → live k.spot → live c.spot → clips of_one_class far k c ≡ clips of_one_class gap (moved k) (moved c)
  clips_alike k c lk lc = ap (λ b. of_one_class k c && b) (before_alike k.spot c.spot lk lc)

  pub cuts_alike : (k : TokenRow P) (q : P) (c : TokenRow P) → live k.spot → live q → live c.spot → cuts of_one_class far k q c ≡ cuts of_one_class gap (moved k) (go q) (moved c)
  cuts_alike k q c lk lq lc = λ i. clips_alike k c lk lc i && by_alike c.spot q lc lq i

  any_cut : (k : TokenRow P) (q : P) → live k.spot → live q → (rows : List (TokenRow P)) → ((c : TokenRow P) → In c rows → live c.spot)
      → list_any (cuts of_one_class far k q) rows ≡ list_any (cuts of_one_class gap (moved k) (go q)) (map moved rows)
  any_cut k q lk lq [] all = refl
  any_cut k q lk lq (c ∷ rows) all = λ i. cuts_alike k q c lk lq (all c (inl refl)) i || any_cut k q lk lq rows (λ d at. all d (inr at)) i

  pub supports_alike : (rows : List (TokenRow P)) → ((c : TokenRow P) → In c rows → live c.spot) → (fact : List ℕ) (p q : P) → live p → live q → (k : TokenRow P) → IsLive live k
      → supports of_one_class far rows fact p q k ≡ supports of_one_class gap (map moved rows) fact (go p) (go q) (moved k)
  supports_alike rows all fact p q lp lq k lk = λ i. same_name k.fact fact && by_alike k.spot p lk.begin lp i && by k.end lk.«end» i
    where
      by : (o : Option P) → ForSome o live → lasts_to of_one_class far rows k q o ≡ lasts_to of_one_class gap (map moved rows) (moved k) (go q) (option_map go o)
      by None le = ap not (any_cut k q lk.begin lq rows all)
      by (Some e) le = before_alike q e lq (le e refl)
