-- How a call ends, by how another does.
use Rattle.std.specs.Prelude.{Result, Ok, Err, OnOk, IfErr}

pub err_kept : {T E : Type 0} (r : Result T E) (P Q : E → Type 0) → IfErr r P → ((e : E) → P e → Q e) → IfErr r Q
err_kept (Ok x) P Q p f = tt
err_kept (Err e) P Q p f = f e p

pub ok_four : {T E : Type 0} (r : Result T E) (A B C D F : Type 0) → OnOk r A → OnOk r B → OnOk r C → OnOk r D → (A → B → C → D → F) → OnOk r F
ok_four (Ok x) A B C D F a b c d f = f a b c d
ok_four (Err e) A B C D F a b c d f = tt
