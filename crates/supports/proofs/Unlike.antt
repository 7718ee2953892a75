-- Where entries that are alike end.
use Rattle.std.proofs.Common.{◌≡◌, ◌∙◌, ℕ, ◌+◌, ◌<◌, inl, inr, List, length, set, sym, subst, arith}
use Rattle.std.specs.Prelude.{slice_index_or}
use Rattle.std.proofs.lemmas.List.{length-set, get_or-set_same, get_or-set_other}
use Rattle.std.proofs.lemmas.Bool.{cases_lt}
use Rattle.tmm_model.specs.declared.token.TokenRow.{TokenRow}
use Rattle.spots.specs.declared.spot.Spot.{Spot}
use Rattle.supports.specs.declared.entries.Entry.{Entry}
use Rattle.supports.specs.Entries.{IsSkip, AreSkipsFrom}

-- one more stands beside its entry
pub skip_set : (rows : List (TokenRow Spot)) (entries : List Entry) (skips : List ℕ) (n at skip : ℕ) → n + 1 ≡ at → n < length entries → AreSkipsFrom rows entries skips at → IsSkip rows entries n skip → AreSkipsFrom rows entries (set skips n skip) n
skip_set rows entries skips n at skip next lt are own = record {
  count = length-set skips n skip ∙ are.count;
  each = λ i d from within. elim (cases_lt n i) [
    | inl behind ↦
        subst (IsSkip rows entries i) (sym (get_or-set_other skips n i skip d (λ same. omega (arith, behind, same)))) (are.each i d (omega (arith, behind, next)) within)
    | inr here ↦
        let same : n ≡ i = omega (arith, from, here) in
        subst (λ j. IsSkip rows entries j (slice_index_or (set skips n skip) j d)) same
        (subst (IsSkip rows entries n) (sym (get_or-set_same skips n skip d (omega (arith, lt, are.count)))) own)
  ];
}
