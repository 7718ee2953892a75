use Rattle.std.proofs.Common.{◌≡◌, ◌+◌, ◌<◌, ℕ, true, false, List, length, sym, ◌∙◌, ap, subst, arith}
use Rattle.std.proofs.lemmas.List.{get_or_default}
use Rattle.std.specs.Prelude.{◌⊎◌, slice_index_or}
use Rattle.tmm_model.specs.declared.token.TokenRow.{TokenRow}
use Rattle.spots.specs.declared.spot.Spot.{Spot}
use Rattle.spots.specs.Forest.{member}
use Rattle.occ_tree.specs.Places.{forest}
use Rattle.occ_tree.specs.Tokens.{number_of, numbers_in}
use Rattle.supports.specs.Behind.{IsClip}
use Rattle.supports.specs.ClassClips.{AreClips}
use Rattle.supports.proofs.ByDate.{tree_in}
use Rattle.belief_list.specs.declared.differing.Found.{Found}
use Rattle.belief_list.specs.Finding.{mark_under, KeepsClip, AreFound}
use Rattle.belief_list.proofs.Finding.{token_at, number_at, each_token, marked_or, wanted_more}
use Rattle.belief_list.proofs.differing.tell_class.Goals.{then-index+in_ok-tell_token, else-index}
use Rattle.belief_list.proofs.differing.tell_class.Goals as goal

pub wanted_of-requires : goal.wanted_of-requires
wanted_of-requires c = record { dates = (c.args.map.now.net.now.present, tree_in c.requires.seen); rising = c.requires.rising }

pub class_clips-requires-clause-long : goal.class_clips-requires-clause-long
class_clips-requires-clause-long c = ap length c.deref.ensures.value ∙ c.in_ok-wanted.ensures.long

pub tell_token-requires-clause-token : goal.tell_token-requires-clause-token
tell_token-requires-clause-token c =
    let f = forest c.args.map.now.tree.now in
    let rows = c.tokens-rows.result.now in
    let (m, at, of) = token_at f c.args.class.now rows c.tokens-rows.ensures.rows c.loop-i.i c.index-rows-i.result c.loop-i-test.true in
    (m, ap (member f) (c.node_of.ensures ∙ ap (λ (r : TokenRow Spot). number_of r.spot) c.index-rows-i.is) ∙ at, c.args.class.now, of)

pub loop-i-preserved : goal.loop-i-preserved
loop-i-preserved c =
    let s = c.args.map.now.standing.now.present in
    let net = c.args.map.now.net.now.present in
    let tree = c.args.map.now.tree.now in
    let g = forest tree in
    let kept = c.args.kept.now in
    let rows = c.tokens-rows.result.now in
    let are = c.tokens-rows.ensures.rows in
    let i = c.loop-i.i in
    let lt = c.loop-i-test.true in
    let wanted = c.in_ok-wanted.wanted.items in
    let within : i < length wanted = omega (arith, lt, c.in_ok-wanted.ensures.long, ap length c.tokens-rows.ensures.list) in
    let marks = c.loop-i.found.marks.items in
    elim c.if-index.branch [
      | then-index+in_ok-tell_token w ↦
          let new = w.tell_token.new.found in
          let told = w.in_ok-tell_token.ensures in
          let row = w.index-rows-i.result in
          let clip = w.index-then-index.result.now in
          let clips = c.in_ok-clips.clips.items in
          let number : w.node_of.result ≡ slice_index_or (numbers_in rows) i 0 =
          w.node_of.ensures ∙ ap (λ (r : TokenRow Spot). number_of r.spot) w.index-rows-i.is ∙ number_at g c.args.class.now rows are i row lt in
          let asked : slice_index_or c.deref.result.now i false ≡ true =
          ap (λ l. slice_index_or l i false) c.deref.ensures.value ∙ get_or_default wanted i false c.index.result.now within ∙ sym c.index.ensures ∙ w.if-index.true in
          let each : AreClips s net g rows c.deref.result.now clips = subst (λ l. AreClips s net g l c.deref.result.now clips) (sym c.tokens-rows.ensures.list) c.in_ok-clips.ensures.each in
          let own : IsClip s net g w.node_of.result clip =
          subst (λ y. IsClip s net g y clip) (sym number) (subst (IsClip s net g (slice_index_or (numbers_in rows) i 0)) (sym w.index-then-index.ensures) (each.each i clip lt asked)) in
          record {
            long = ap (λ (z : Found). length z.marks.items) w.found-is ∙ told.long;
            found = λ classes v. subst (λ (z : Found). AreFound s net tree classes kept z.marks.items z.differences.items) (sym w.found-is) (told.found net classes own (c.loop-i.invariant.found classes v));
            done = subst (λ (z : Found). (j : ℕ) → j < i + 1 → slice_index_or wanted j true ≡ true → mark_under z.marks.items (slice_index_or (numbers_in rows) j 0) ≡ true) (sym w.found-is)
                (wanted_more wanted (λ y. mark_under marks y ≡ true) (λ y. mark_under new.marks.items y ≡ true) (numbers_in rows) i told.stay
                (λ _. subst (λ y. mark_under new.marks.items y ≡ true) number told.marked) c.loop-i.invariant.done);
            stay = λ y e. subst (λ (z : Found). mark_under z.marks.items y ≡ true) (sym w.found-is) (told.stay y (c.loop-i.invariant.stay y e));
          }
      | else-index w ↦
          let unwanted : slice_index_or wanted i true ≡ false = get_or_default wanted i true c.index.result.now within ∙ sym c.index.ensures ∙ w.if-index.false in
          record {
            long = ap (λ (z : Found). length z.marks.items) w.found-is ∙ c.loop-i.invariant.long;
            found = λ classes v. subst (λ (z : Found). AreFound s net tree classes kept z.marks.items z.differences.items) (sym w.found-is) (c.loop-i.invariant.found classes v);
            done = subst (λ (z : Found). (j : ℕ) → j < i + 1 → slice_index_or wanted j true ≡ true → mark_under z.marks.items (slice_index_or (numbers_in rows) j 0) ≡ true) (sym w.found-is)
                (wanted_more wanted (λ y. mark_under marks y ≡ true) (λ y. mark_under marks y ≡ true) (numbers_in rows) i (λ y e. e)
                (λ yes_wanted. (let none : true ≡ false = sym yes_wanted ∙ unwanted in absurd (cc none))) c.loop-i.invariant.done);
            stay = λ y e. subst (λ (z : Found). mark_under z.marks.items y ≡ true) (sym w.found-is) (c.loop-i.invariant.stay y e);
          }
    ]

pub returns-clause-settled : goal.returns-clause-settled
returns-clause-settled c = λ nodes marked.
    let lists = c.args.map.now.standing.now in
    let k = c.args.map.now.tree.now in
    let kept = c.args.kept.now in
    let class = c.args.class.now in
    let rows = c.tokens-rows.result.now in
    let marks = c.loop-i.found.marks.items in
    let wanted = c.in_ok-wanted.wanted.items in
    let others = subst (λ (l : List (TokenRow Spot)). (i : ℕ) → i < length l → slice_index_or wanted i true ≡ false → KeepsClip lists k nodes kept class (slice_index_or (numbers_in l) i 0))
    (sym c.tokens-rows.ensures.list) (c.in_ok-wanted.ensures.others nodes marked) in
    each_token (forest k) class rows c.tokens-rows.ensures.rows (λ x. (mark_under marks x ≡ true) ⊎ KeepsClip lists k nodes kept class x)
    (λ i lt. marked_or marks wanted (numbers_in rows) (KeepsClip lists k nodes kept class) i (c.loop-i.invariant.done i (omega (arith, lt, c.loop-i-test.false))) (others i lt))
