use Rattle.std.proofs.Common.{◌≡◌, ◌∙◌, ◌⊎◌, ◌++◌, ◌∷◌, [], ◌+◌, ℕ, List, Some, take, sym, ap, subst, inl, inr, arith, refl}
use Rattle.std.specs.Prelude.{slice_get}
use Rattle.std.proofs.lemmas.List.{take_all}
use Rattle.std.proofs.lemmas.Option.{slice_get-get_or}
use Rattle.list_theory.proofs.Elements.{In, In-left, In-right, In-cases}
use Rattle.premise_list.proofs.PairsOfFacts.{each_taken, In-slice_get}
use Rattle.premise_list.proofs.rivalries.changed_pairs.Goals.{then-is_pair_at, else-is_pair_at+in_ok-add_pair}
use Rattle.premise_list.proofs.rivalries.changed_pairs.Goals as goal

pub loop-i-init : goal.loop-i-init
loop-i-init c = record {
  gone = λ pair at. absurd at;
  come = λ pair at. absurd at;
  of_lists = λ pair at. absurd (subst (In pair) c.new-changed.ensures.items at);
}

-- a pair that is among these or among some is so among more
or_more : (lists : List (List ℕ × List ℕ)) (old : List (List ℕ × List ℕ)) (x pair : List ℕ × List ℕ) → In pair lists ⊎ In pair old → In pair lists ⊎ In pair (old ++ x ∷ [])
or_more lists old x pair (inl there) = inl there
or_more lists old x pair (inr here) = inr (In-left old (x ∷ []) pair here)

-- of more pairs each is of the lists, if the last one is
of_more : (P : List ℕ × List ℕ → Type 0) (old : List (List ℕ × List ℕ)) (x : List ℕ × List ℕ) → ((pair : List ℕ × List ℕ) → In pair old → P pair) → P x → (pair : List ℕ × List ℕ) → In pair (old ++ x ∷ []) → P pair
of_more P old x each own pair at = elim (In-cases old (x ∷ []) pair at) [
  | inl there ↦ each pair there
  | inr here ↦ elim here [ inl same ↦ subst P same own | inr none ↦ absurd none ]
]

last_in : (old : List (List ℕ × List ℕ)) (x : List ℕ × List ℕ) → In x (old ++ x ∷ [])
last_in old x = In-right old (x ∷ []) x (inl refl)

pub loop-i-preserved : goal.loop-i-preserved
loop-i-preserved c =
    let now = c.args.now.now in
    let before = c.args.before.now in
    let i = c.loop-i.i in
    let old = c.loop-i.changed.items in
    elim c.if-is_pair_at.branch [
      | then-is_pair_at w ↦
          let pair = c.index-before-i.result in
          let at : slice_get before i ≡ Some pair = slice_get-get_or before i pair c.loop-i-test.true ∙ ap Some (sym c.index-before-i.is) in
          let is = c.is_pair_at.ensures w.if-is_pair_at.true in
          record {
            gone = subst (λ v. (p : List ℕ × List ℕ) → In p (take (i + 1) before) → In p now ⊎ In p v.items) (sym w.changed-is)
                (each_taken (λ p. In p now ⊎ In p old) (λ p. In p now ⊎ In p old) before i pair at (λ y there. there) (inl (In-slice_get now c.loop-i.next pair is)) c.loop-i.invariant.gone);
            come = subst (λ n. (p : List ℕ × List ℕ) → In p (take n now) → In p before) (sym w.next-is)
                (each_taken (λ p. In p before) (λ p. In p before) now c.loop-i.next pair is (λ y there. there) (In-slice_get before i pair at) c.loop-i.invariant.come);
            of_lists = subst (λ v. (p : List ℕ × List ℕ) → In p v.items → In p before ⊎ In p now) (sym w.changed-is) c.loop-i.invariant.of_lists;
          }
      | else-is_pair_at+in_ok-add_pair w ↦
          let pair = w.index-before-i-else-is_pair_at.result in
          let at : slice_get before i ≡ Some pair = slice_get-get_or before i pair c.loop-i-test.true ∙ ap Some (sym w.index-before-i-else-is_pair_at.is) in
          let more = w.in_ok-add_pair.ensures in
          record {
            gone = subst (λ v. (p : List ℕ × List ℕ) → In p (take (i + 1) before) → In p now ⊎ In p v.items) (sym w.changed-is)
                (subst (λ l. (p : List ℕ × List ℕ) → In p (take (i + 1) before) → In p now ⊎ In p l) (sym more)
                (each_taken (λ p. In p now ⊎ In p old) (λ p. In p now ⊎ In p (old ++ pair ∷ [])) before i pair at (or_more now old pair) (inr (last_in old pair)) c.loop-i.invariant.gone));
            come = subst (λ n. (p : List ℕ × List ℕ) → In p (take n now) → In p before) (sym w.next-is) c.loop-i.invariant.come;
            of_lists = subst (λ v. (p : List ℕ × List ℕ) → In p v.items → In p before ⊎ In p now) (sym w.changed-is)
                (subst (λ l. (p : List ℕ × List ℕ) → In p l → In p before ⊎ In p now) (sym more)
                (of_more (λ p. In p before ⊎ In p now) old pair c.loop-i.invariant.of_lists (inl (In-slice_get before i pair at))));
          }
    ]

pub loop-j-init : goal.loop-j-init
loop-j-init c =
    let before = c.args.before.now in
    record {
      gone = λ pair at. c.loop-i.invariant.gone pair (subst (In pair) (sym (take_all c.loop-i.i before (omega (arith, c.loop-i-test.false)))) at);
      come = λ pair at. inl (c.loop-i.invariant.come pair at);
      of_lists = c.loop-i.invariant.of_lists;
    }

pub loop-j-preserved : goal.loop-j-preserved
loop-j-preserved c =
    let now = c.args.now.now in
    let before = c.args.before.now in
    let j = c.loop-j.j in
    let old = c.loop-j.changed.items in
    let pair = c.index-now-j.result in
    let at : slice_get now j ≡ Some pair = slice_get-get_or now j pair c.loop-j-test.true ∙ ap Some (sym c.index-now-j.is) in
    let more = c.in_ok-add_pair-2.ensures in
    record {
      gone = λ p on. subst (λ l. In p now ⊎ In p l) (sym more) (or_more now old pair p (c.loop-j.invariant.gone p on));
      come = subst (λ l. (p : List ℕ × List ℕ) → In p (take (j + 1) now) → In p before ⊎ In p l) (sym more)
          (each_taken (λ p. In p before ⊎ In p old) (λ p. In p before ⊎ In p (old ++ pair ∷ [])) now j pair at (or_more before old pair) (inr (last_in old pair)) c.loop-j.invariant.come);
      of_lists = subst (λ l. (p : List ℕ × List ℕ) → In p l → In p before ⊎ In p now) (sym more)
          (of_more (λ p. In p before ⊎ In p now) old pair c.loop-j.invariant.of_lists (inr (In-slice_get now j pair at)));
    }

pub returns : goal.returns
returns c = record {
  gone = c.loop-j.invariant.gone;
  come = λ pair at. c.loop-j.invariant.come pair (subst (In pair) (sym (take_all c.loop-j.j c.args.now.now (omega (arith, c.loop-j-test.false)))) at);
  of_lists = c.loop-j.invariant.of_lists;
}
