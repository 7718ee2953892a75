-- What holds of a result, by what holds of its value or its error.
use Rattle.std.proofs.Common.{Result, Ok, Err}
use Rattle.std.specs.Prelude.{OnOk, OnErr, IfErr}

pub on_ok : {T E : Type 0} (P Q : Type 0) → (P → Q) → (r : Result T E) → OnOk r P → OnOk r Q
on_ok P Q step (Ok x) p = step p
on_ok P Q step (Err e) p = p

pub on_err : {T E : Type 0} (P Q : Type 0) → (P → Q) → (r : Result T E) → OnErr r P → OnErr r Q
on_err P Q step (Ok x) p = p
on_err P Q step (Err e) p = step p

pub if_err : {T E : Type 0} (P Q : E → Type 0) → ((e : E) → P e → Q e) → (r : Result T E) → IfErr r P → IfErr r Q
if_err P Q step (Ok x) p = p
if_err P Q step (Err e) p = step e p
