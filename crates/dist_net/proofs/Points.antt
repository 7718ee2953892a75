-- Points that come and go.
use Rattle.std.proofs.Common.{◌≡◌, ◌≢◌, ◌∙◌, inl, inr, ℕ, ◌<◌, ◌≤◌, List, get_or, set, length, Option, Some, None, ap, sym, arith, length-set, get_or-set_other, get_or-set_same}
use Rattle.std.specs.List.{All}
use Rattle.std.specs.Option.{is_some}
use Rattle.std.proofs.lemmas.Bool.{cases_eq, cases_lt}
use Rattle.std.proofs.lemmas.List.{get_or_past}
use Rattle.tmm_model.specs.declared.point.PointName.{PointName}
use Rattle.dist_net.specs.declared.Edge.{Edge}
use Rattle.dist_net.specs.Net.{AreInUse}
use Rattle.dist_net.specs.Table.{AreNames, IsState, Kept}
use Rattle.dist_net.proofs.Names.{apart_none, AreInUse-named, AreNames-named}

-- a point comes at a free number
pub IsState-named : (s : Kept) (place : ℕ) (name : PointName) (next : ℕ) → IsState s → place < 256 → get_or s.names place None ≡ None → ((k : ℕ) → get_or s.names k None ≢ Some name)
    → place < next → s.limit ≤ next → next ≤ 256 → IsState (record { names = set s.names place (Some name); edges = s.edges; table = s.table; limit = next })
IsState-named s place name next is in_place free new below le within = record {
  names = AreNames-named s.names s.limit place name next is.names in_place free new below le within;
  edges = record {
    few = is.edges.few;
    in_use = AreInUse-named s.names s.edges place name free is.edges.in_use;
    light = is.edges.light;
    dates = is.edges.dates;
  };
  table = is.table;
}

-- the number of the point that goes is of none
gone_at : (names : List (Option PointName)) (p k : ℕ) → k ≡ p → get_or (set names p None) k None ≡ None
gone_at names p k same = ap (λ (i : ℕ). get_or (set names p None) i None) same ∙ (elim (cases_lt p (length names)) [
  | inl lt ↦ get_or-set_same names p None None lt
  | inr out ↦ get_or_past (set names p None) p None (omega (arith, length-set names p None))
])

-- a number of a point is another, and its point stays
pub still_at : (names : List (Option PointName)) (p k : ℕ) (name : PointName) → get_or (set names p None) k None ≡ Some name → get_or names k None ≡ Some name
still_at names p k name at = elim (cases_eq k p) [
  | inl same ↦ absurd (apart_none name (sym (gone_at names p k same) ∙ at))
  | inr other ↦ sym (get_or-set_other names p k None None other) ∙ at
]

AreNames-dropped : (names : List (Option PointName)) (limit p : ℕ) → AreNames names limit → p ≢ 0 → AreNames (set names p None) limit
AreNames-dropped names limit p is other = record {
  places = length-set names p None ∙ is.places;
  start = get_or-set_other names p 0 None None (λ same. other (sym same)) ∙ is.start;
  distinct = λ a b name at_a at_b. is.distinct a b name (still_at names p a name at_a) (still_at names p b name at_b);
  within = is.within;
  unused = λ k le. elim (cases_eq k p) [
    | inl same ↦ gone_at names p k same
    | inr apart ↦ get_or-set_other names p k None None apart ∙ is.unused k le
  ];
}

AreInUse-dropped : (names : List (Option PointName)) (edges : List Edge) (p : ℕ) → AreInUse names edges → All (λ e. (e.from ≢ p) × (e.to ≢ p)) edges → AreInUse (set names p None) edges
AreInUse-dropped names edges p used none k d lt =
    let e : Edge = get_or edges k d in (
      ap is_some (get_or-set_other names p e.from None None (none k d lt).0) ∙ (used k d lt).0,
      ap is_some (get_or-set_other names p e.to None None (none k d lt).1) ∙ (used k d lt).1,
    )

-- a point other than `start` goes that no edge is at
pub IsState-dropped : (s : Kept) (p : ℕ) → IsState s → p ≢ 0 → All (λ e. (e.from ≢ p) × (e.to ≢ p)) s.edges
    → IsState (record { names = set s.names p None; edges = s.edges; table = s.table; limit = s.limit })
IsState-dropped s p is other none = record {
  names = AreNames-dropped s.names s.limit p is.names other;
  edges = record {
    few = is.edges.few;
    in_use = AreInUse-dropped s.names s.edges p is.edges.in_use none;
    light = is.edges.light;
    dates = is.edges.dates;
  };
  table = is.table;
}
