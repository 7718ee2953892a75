use Rattle.std.proofs.Common.{map, sym}
use Rattle.std.specs.Cmp.Lexicographic.{bytes_decides}
use Rattle.tmm_model.specs.Beliefs.{tokens}
use Rattle.list_theory.proofs.Elements.{In-from_Contains, Contains-from_In}
use Rattle.spots.specs.Spots.{row_moment}
use Rattle.spots.proofs.Seen.{tokens_are}
use Rattle.spots.proofs.spot_laws.rows_are_the_tokens.Goals as goal

pub returns : goal.returns
returns c = λ s net f seen b holds class rows are k.
    (let told = tokens_are s net f seen b holds class rows are k in
    let seen_rows = map (row_moment net.names f) rows in (
      (λ at. let h = told.0 (In-from_Contains seen_rows k at) in (Contains-from_In (tokens s b) k h.0, sym ((bytes_decides class k.class).0 h.1))),
      (λ h. Contains-from_In seen_rows k (told.1 (In-from_Contains (tokens s b) k h.0, (bytes_decides class k.class).1 (sym h.1)))),
    ))
