-- Ranks given backwards from an end, edge by edge.
use Rattle.std.proofs.Common.{◌≡◌, ◌≢◌, ◌∙◌, inl, inr, ℕ, ◌+◌, ◌<◌, ◌≤◌, List, [], ◌∷◌, ◌++◌, length, get_or, replicate, set, length-set, length-append, ap, sym, subst, arith, refl, true, eqb}
use Rattle.std.specs.List.{Contains, IsDistinct, list_any}
use Rattle.std.specs.Cmp.{IsEquivalence}
use Rattle.std.proofs.lemmas.Bool.{cases_eq, cases_lt, eqb-true, eq-eqb, ne_eqb, false_from_ne_true}
use Rattle.std.proofs.lemmas.Bool.Decides.{eqb_tells}
use Rattle.std.proofs.lemmas.List.{get_or-set_same, get_or-set_other, get_or_past, get_or_default, get_or_append_left, length-replicate}
use Rattle.std.proofs.Math.Seq.{get_or-append_seam}
use Rattle.std.proofs.lemmas.List.Elements.{Contains-push, Contains-append_left}
use Rattle.std.proofs.lemmas.Map.Keys.{IsDistinct-push}
use Rattle.std.proofs.lemmas.Map.Views.{Contains-from_any}
use Rattle.std.proofs.lemmas.Map.Steps.{length-le_from_distinct_below}
use Rattle.dist_net.specs.declared.Edge.{Edge}
use Rattle.dist_net.specs.Net.{same_number}
use Rattle.neg_cycle.specs.declared.ranks.Ways.{Ways}
use Rattle.neg_cycle.specs.Ends.{IsAt}
use Rattle.neg_cycle.specs.Ranks.{IsTight, IsNext, IsRanked, AreListed, AreWays, AreKept, IsVisited, IsFurther}
use Rattle.neg_cycle.proofs.Linked.{zeros}

-- ---- a rank is given

-- an edge to a ranked point leads on from its beginning, whose rank is or becomes greater
pub IsRanked-set : (edges : List Edge) (b place : ℕ) (rank now first : List ℕ) (e : Edge) → IsRanked edges b rank first → IsAt edges place e → IsTight edges b e → e.from < 256 →
    length now ≡ 256 → AreKept rank now → ((p : ℕ) → p ≢ e.from → get_or now p 0 ≡ get_or rank p 0) → 0 < get_or rank e.to 0 → get_or rank e.to 0 < get_or now e.from 0 → IsRanked edges b now (set first e.from place)
IsRanked-set edges b place rank now first e is at tight in_from ranks kept others some lower = record {
  ranks = ranks;
  firsts = length-set first e.from place ∙ is.firsts;
  at_end = subst (λ (n : ℕ). 0 < n) (sym (kept b is.at_end)) is.at_end;
  leads = λ p ranked.
      elim (cases_eq p e.from) [
        | inl same ↦ inr (
          e,
          subst (λ (k : ℕ). IsAt edges k e) (sym (ap (λ (q : ℕ). get_or (set first e.from place) q 0) same ∙ here)) at,
          record {
            member = (place, at.0, at.1);
            from = sym same;
            tight = tight;
            ranked = omega (arith, some, kept e.to some);
            lower = omega (arith, kept e.to some, lower, ap (λ (q : ℕ). get_or now q 0) same);
          },
        )
        | inr other ↦ (let was : get_or now p 0 ≡ get_or rank p 0 = others p other in
            elim (is.leads p (omega (arith, ranked, was))) [
              | inl at_b ↦ inl at_b
              | inr (f, at_f, l) ↦ inr (
                f,
                subst (λ (k : ℕ). IsAt edges k f) (sym (get_or-set_other first e.from p place 0 other)) at_f,
                record {
                  member = l.member;
                  from = l.from;
                  tight = l.tight;
                  ranked = omega (arith, l.ranked, kept f.to l.ranked);
                  lower = omega (arith, kept f.to l.ranked, was, l.lower);
                },
              )
            ])
      ];
}
  where
    here : get_or (set first e.from place) e.from 0 ≡ place
    here = get_or-set_same first e.from place 0 (omega (arith, is.firsts))

-- the edge on which a least walk goes on
pub edge_on : (edges : List Edge) (b : ℕ) (ways : Ways) (p : ℕ) → AreWays edges b ways → 0 < get_or ways.rank.items p 0 → p ≢ b → (e : Edge) × IsAt edges (get_or ways.first.items p 0) e × IsNext edges b ways.rank.items p e
edge_on edges b ways p are some other = elim (are.leading.leads p some) [ inl same ↦ absurd (other same) | inr next ↦ next ]

pub AreKept-set : (rank : List ℕ) (q n : ℕ) → get_or rank q 0 ≡ 0 → AreKept rank (set rank q n)
AreKept-set rank q n none p ranked = get_or-set_other rank q p n 0 (λ same. omega (arith, ranked, none, ap (λ (r : ℕ). get_or rank r 0) same))

-- the end alone is ranked
pub IsRanked-start : (edges : List Edge) (b : ℕ) (rank first : List ℕ) → rank ≡ replicate 256 0 → first ≡ replicate 256 0 → b < 256 → IsRanked edges b (set rank b 1) first
IsRanked-start edges b rank first none firsts place = record {
  ranks = length-set rank b 1 ∙ (ap length none ∙ length-replicate {A = ℕ} 256 0);
  firsts = ap length firsts ∙ length-replicate {A = ℕ} 256 0;
  at_end = omega (arith, get_or-set_same rank b 1 0 (omega (arith, place, ap length none, length-replicate {A = ℕ} 256 0)));
  leads = λ p ranked. elim (cases_eq p b) [ inl same ↦ inl same | inr other ↦ absurd (omega (arith, ranked, get_or-set_other rank b p 1 0 other, zeros 256 p rank none)) ];
}

-- ---- the list of the ranked points

-- a ranked point has a place
pub in_places : (rank : List ℕ) (p : ℕ) → length rank ≡ 256 → 0 < get_or rank p 0 → p < 256
in_places rank p ranks some = elim (cases_lt p (length rank)) [ inl lt ↦ omega arith | inr past ↦ absurd (omega (arith, some, get_or_past rank p 0 past)) ]

pub IsDistinct-none : IsDistinct same_number []
unfolding IsDistinct
IsDistinct-none = tt

pub eqb_laws : IsEquivalence eqb
eqb_laws = record {
  refl = λ x. eq-eqb x x refl;
  symm = λ x y. elim (eqb_tells x y) [ inl h ↦ h.0 ∙ sym (eq-eqb y x (sym h.1)) | inr h ↦ h.0 ∙ sym (ne_eqb y x (λ e. h.1 (sym e))) ];
  congr = λ x y z t. ap (λ (p : ℕ). eqb p z) (eqb-true x y t);
}

ranked_in : (rank ranked : List ℕ) (q : ℕ) → AreListed rank ranked → list_any (eqb q) ranked ≡ true → 0 < get_or rank q 0
ranked_in rank ranked q is t =
    let m : Contains ranked q = Contains-from_any {eq = eqb} (λ x y e. eqb-true x y e) q ranked t in
    let at : get_or ranked m.0 0 ≡ q = get_or_default ranked m.0 0 q m.1 ∙ m.2 in
    omega (arith, is.some m.0 m.1, ap (λ (p : ℕ). get_or rank p 0) at)

-- there are at most as many as there are places
few : (rank ranked : List ℕ) → AreListed rank ranked → length rank ≡ 256 → length ranked ≤ 256
few rank ranked is ranks = length-le_from_distinct_below ranked 256 is.distinct (λ q t. in_places rank q ranks (ranked_in rank ranked q is t))

pub AreListed-push : (rank ranked : List ℕ) (p n : ℕ) → AreListed rank ranked → length rank ≡ 256 → p < 256 → get_or rank p 0 ≡ 0 → 0 < n → n ≤ length ranked + 1 → AreListed (set rank p n) (ranked ++ p ∷ [])
AreListed-push rank ranked p n is ranks place none some low = record {
  distinct = IsDistinct-push eqb_laws ranked p is.distinct (false_from_ne_true (list_any (eqb p) ranked) (λ t. omega (arith, none, ranked_in rank ranked p is t)));
  some = λ k lt.
      elim (cases_lt k (length ranked)) [
        | inl sooner ↦ omega (arith, is.some k sooner, AreKept-set rank p n none (get_or ranked k 0) (is.some k sooner), ap (λ (q : ℕ). get_or (set rank p n) q 0) (get_or_append_left ranked (p ∷ []) 0 k sooner))
        | inr here_k ↦ omega (arith, some, here, ap (λ (q : ℕ). get_or (set rank p n) q 0) (last k lt here_k))
      ];
  all = λ q ranked_q.
      elim (cases_eq q p) [
        | inl same ↦ subst (Contains (ranked ++ p ∷ [])) (sym same) (Contains-push ranked p)
        | inr other ↦ Contains-append_left ranked (p ∷ []) q (is.all q (omega (arith, ranked_q, get_or-set_other rank p q n 0 other)))
      ];
  low = λ q. elim (cases_eq q p) [ inl same ↦ omega (arith, ap (λ (r : ℕ). get_or (set rank p n) r 0) same, here, low, length-append ranked (p ∷ [])) | inr other ↦ omega (arith, get_or-set_other rank p q n 0 other, is.low q, length-append ranked (p ∷ [])) ];
}
  where
    here : get_or (set rank p n) p 0 ≡ n
    here = get_or-set_same rank p n 0 (omega (arith, ranks))

    last : (k : ℕ) → k < length (ranked ++ p ∷ []) → length ranked ≤ k → get_or (ranked ++ p ∷ []) k 0 ≡ p
    last k lt past =
        let is_last : k ≡ length ranked = omega (arith, lt, past, length-append ranked (p ∷ [])) in
        ap (λ (j : ℕ). get_or (ranked ++ p ∷ []) j 0) is_last ∙ get_or-append_seam ranked p [] 0

pub AreListed-start : (b : ℕ) (rank : List ℕ) → rank ≡ replicate 256 0 → b < 256 → AreListed (set rank b 1) (b ∷ [])
AreListed-start b rank none place = AreListed-push rank [] b 1 empty (ap length none ∙ length-replicate {A = ℕ} 256 0) place (zeros 256 b rank none) (omega arith) (omega arith)
  where
    empty : AreListed rank []
    empty = record {
      distinct = IsDistinct-none;
      some = λ k lt. absurd (omega (arith, lt));
      all = λ p some. absurd (omega (arith, some, zeros 256 p rank none));
      low = λ p. omega (arith, zeros 256 p rank none);
    }

-- a point that is not ranked has room in the list
pub room : (rank ranked : List ℕ) (p : ℕ) → AreListed rank ranked → length rank ≡ 256 → p < 256 → get_or rank p 0 ≡ 0 → length ranked < 256
room rank ranked p is ranks place none =
    let more = few (set rank p 1) (ranked ++ p ∷ []) (AreListed-push rank ranked p 1 is ranks place none (omega arith) (omega arith)) (length-set rank p 1 ∙ ranks) in
    omega (arith, more, length-append ranked (p ∷ []))

-- ---- visits

pub IsVisited-kept : (edges : List Edge) (b p : ℕ) (old new : List ℕ) → AreKept old new → IsVisited edges b old p → IsVisited edges b new p
IsVisited-kept edges b p old new kept is place e at to tight = (let some : 0 < get_or old e.from 0 = is place e at to tight in omega (arith, some, kept e.from some))

pub IsFurther-more : (old mid new : Ways) → IsFurther old mid → IsFurther mid new → IsFurther old new
IsFurther-more old mid new first then = record {
  kept = λ p some. (let still : 0 < get_or mid.rank.items p 0 = omega (arith, some, first.kept p some) in then.kept p still ∙ first.kept p some);
  longer = omega (arith, first.longer, then.longer);
  begins = λ k lt. then.begins k (omega (arith, lt, first.longer)) ∙ first.begins k lt;
}
