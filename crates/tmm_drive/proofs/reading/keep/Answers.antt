use Rattle.std.proofs.Common.{◌≡◌, ◌+◌, ◌-◌, ◌<◌, ◌≤◌, ◌++◌, List, ℕ, length, take, min, Result, Ok, Err, OnOk, OnErr, sym, ap, ◌∙◌, arith}
use Rattle.std.proofs.lemmas.List.{length-take, take_min}
use Rattle.std.proofs.Math.Seq.{take-append-add}
use Rattle.tmm_drive.proofs.reading.keep.Goals as goal

-- an extension with room is done
at_room : {T E : Type 0} (r : Result T E) (room n : ℕ) (P : Type 0) → n ≤ room → OnOk r P → OnErr r (room < n) → P
at_room (Ok done) room n P some ok full = ok
at_room (Err back) room n P some ok full = absurd (omega arith)

-- what is kept of a list and more
kept : (old part : List ℕ) → length old ≤ 401 → old ++ take (min (401 - length old) (length part)) part ≡ take 401 (old ++ part)
kept old part short =
    let e : length old + (401 - length old) ≡ 401 = omega arith in
    ap (λ l. old ++ l) (take_min (401 - length old) part) ∙ sym (take-append-add old part (401 - length old)) ∙ ap (λ n. take n (old ++ part)) e

pub returns-clause-items : goal.returns-clause-items
returns-clause-items c =
    let len = ap length c.items.ensures in
    let few : length (take c.min.result c.args.part.now) ≤ c.args.buffer.now.room =
    omega (arith, length-take c.min.result c.args.part.now, c.min.ensures, len, c.requires.room) in
    let put = at_room c.extend.result c.args.buffer.now.room (length (take c.min.result c.args.part.now)) _ few c.extend.ensures.ok c.extend.ensures.full in
    put
    ∙ ap (λ n. c.args.buffer.now.items ++ take n c.args.part.now) (c.min.ensures ∙ ap (λ n. min (401 - n) (length c.args.part.now)) len)
    ∙ kept c.args.buffer.now.items c.args.part.now c.requires.kept
