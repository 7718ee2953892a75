use Rattle.std.proofs.Common.{◌∙◌}
use Rattle.std.specs.Prelude.{Result, Ok, Err, IsOk, OnOk}
use Rattle.indexmap.proofs.CallerLemmas.{insert_entry-new}
use Rattle.tmm_model.specs.Points.{same_name}
use Rattle.list_theory.proofs.WellNamed.{lookup-unknown}
use Rattle.premise_list.proofs.table.declare.Goals as goal

on_ok : {T E P : Type 0} (r : Result T E) → IsOk r → OnOk r P → P
on_ok (Ok x) ok p = p
on_ok (Err e) ok p = cc

pub returns-clause-entries : goal.returns-clause-entries
returns-clause-entries c =
    on_ok c.insert-new.result (c.insert-new.ensures.succeeds c.requires.room) c.insert-new.ensures.entries
    ∙ insert_entry-new same_name c.args.words.now c.args.name c.args.word (lookup-unknown (same_name c.args.name) c.args.words.now.entries c.requires.new)
