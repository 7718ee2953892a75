-- Replies of worked scripts, as their definition computes them.
use Rattle.std.specs.Prelude.{◌≡◌, ℕ, pos, negsuc, true, false, List, [], ◌∷◌, codes, Some, None, refl}
use Rattle.std.specs.Fmt.{digits}
use Rattle.tmm_model.specs.declared.answer.Answer.TheVariants.{Yes, No, Unordered}
use Rattle.tmm_model.specs.declared.answer.Cause.TheVariants.{Late, Clipped, Ends}
use Rattle.tmm_model.specs.declared.bound.Bound.TheVariants.{Finite, Free}
use Rattle.tmm_model.specs.declared.changes.Changes.{Changes}
use Rattle.tmm_model.specs.declared.changes.WhyLine.TheVariants.{Premise, Order, Derived}
use Rattle.tmm_model.specs.declared.point.Occ.{Occ}
use Rattle.tmm_model.specs.declared.point.PointName.TheVariants.{Start, Begin, End}
use Rattle.tmm_model.specs.declared.point.QueryPoint.TheVariants.{Declared}
use Rattle.tmm_model.specs.declared.refusal.Refusal.TheVariants.{LimitLine, Unknown, Cycle}
use Rattle.tmm_model.specs.declared.walk.Side.TheVariants.{Hi, Lo}
use Rattle.tmm_model.specs.Types.{Listed}
use Rattle.tmm_model.specs.declared.version.Version.TheVariants.{One, Two}
use Rattle.tmm_model.specs.Replies.{Accepted, Refused, BoundsAre, PathIs, Answered, Reasons, BrokenAre, Believed, DumpIs, AuditYes, SizeIs, is_refusal, text_of, memory_text}

abbrev seq : {T : Type 0} → List T → Listed T
seq xs = record { items = xs; room = 0 }

-- an occurrence without rules, and one with the rule r
abbrev root : List ℕ → Occ
root name = record { root = name; rules = seq [] }

abbrev effect : List ℕ → Occ
effect name = record { root = name; rules = seq (codes "r" ∷ []) }

abbrev nothing : Changes
nothing = record { erased = seq []; left = seq []; entered = seq []; loose = seq []; clips = seq []; broken = seq []; mended = seq [] }

of_a_plain_edit : text_of 1 (Accepted nothing) ≡ codes "1 ok\n"
unfolding digits
of_a_plain_edit = refl

of_an_edit : text_of 13 (Accepted (record nothing {
  erased = seq (codes "m" ∷ codes "x" ∷ []);
  left = seq (effect (codes "f") ∷ []);
  entered = seq (effect (codes "e") ∷ []);
  loose = seq (root (codes "k") ∷ []);
  clips = seq (record { token = root (codes "n"); by = effect (codes "e") } ∷ []);
  broken = seq (
      record { name = codes "g"; answer = No (seq (record { token = root (codes "k"); cause = Clipped (root (codes "m")) } ∷ [])) 2 }
      ∷ record { name = codes "i"; answer = Unordered } ∷ []);
  mended = seq (codes "h" ∷ []);
}))
    ≡ codes "13 ok\n  erased m\n  erased x\n  out f/r\n  in e/r\n  loose k\n  clip n by e/r\n  broken g\n    k clipped m\n    and 2 more\n  broken i unordered\n  mended h\n"
unfolding digits
of_an_edit = refl

of_a_cycle : text_of 9 (Refused (Cycle (negsuc 4) (seq (
    record { premise = codes "x"; side = Lo; from = Begin (codes "a"); to = Begin (codes "c"); weight = pos 0 }
    ∷ record { premise = codes "e"; side = Hi; from = End (codes "c"); to = Start; weight = negsuc 1 } ∷ []))))
    ≡ codes "9 no cycle -5\n  x lo a c 0\n  e hi c.end start -2\n"
unfolding digits
of_a_cycle = refl

of_a_long_line : text_of 7 (Refused LimitLine) ≡ codes "7 no limit line\n"
unfolding digits
of_a_long_line = refl

of_an_unknown_name : text_of 9 (Refused (Unknown (Declared (Begin (codes "start"))))) ≡ codes "9 no unknown start\n"
unfolding digits
of_an_unknown_name = refl

of_bounds : text_of 8 (BoundsAre (Finite (pos 0)) Free) ≡ codes "8 bounds 0 *\n"
unfolding digits
of_bounds = refl

of_a_path : text_of 10 (PathIs (Finite (negsuc 2)) (record { premise = codes "d"; side = Lo; from = Begin (codes "b"); to = Begin (codes "a"); weight = negsuc 2 } ∷ []))
    ≡ codes "10 path -3\n  d lo b a -3\n"
unfolding digits
of_a_path = refl

of_a_yes : text_of 39 (Answered (Yes (effect (codes "cut-a")))) ≡ codes "39 yes cut-a/r\n"
unfolding digits
of_a_yes = refl

of_a_no : text_of 12 (Answered (No (seq (
    record { token = root (codes "t0"); cause = Late }
    ∷ record { token = root (codes "k"); cause = Clipped (effect (codes "m")) }
    ∷ record { token = root (codes "s"); cause = Ends } ∷ [])) 2))
    ≡ codes "12 no\n  t0 late\n  k clipped m/r\n  s ends\n  and 2 more\n"
unfolding digits
of_a_no = refl

of_points_without_order : text_of 5 (Answered Unordered) ≡ codes "5 no unordered\n"
unfolding digits
of_points_without_order = refl

of_reasons : text_of 8 (Reasons (
    Premise (codes "k")
    ∷ Order (Declared (Begin (codes "k"))) (Declared (Begin (codes "e"))) (negsuc 9)
    (seq (record { premise = codes "x"; side = Lo; from = Begin (codes "e"); to = Start; weight = negsuc 9 } ∷ []))
    ∷ Derived (effect (codes "e")) (codes "r") (root (codes "e")) (seq (root (codes "k") ∷ root (codes "j") ∷ [])) (record { items = [] })
    ∷ Derived (effect (codes "f")) (codes "r") (root (codes "f")) (seq []) (record { items = codes "g" ∷ codes "h" ∷ [] }) ∷ []))
    ≡ codes "8 why\n  premise k\n  order k e -10\n    x lo e start -10\n  e/r by r on e with k j\n  f/r by r on f unless g h\n"
unfolding digits
of_reasons = refl

of_broken_ones : text_of 11 (BrokenAre (record { name = codes "g"; answer = Unordered } ∷ [])) ≡ codes "11 check 1\n  broken g unordered\n"
unfolding digits
of_broken_ones = refl

of_believed_ones : text_of 16 (Believed (
    record { early = pos 0; occ = root (codes "k"); what = codes "open"; clip = Some (root (codes "m")) }
    ∷ record { early = pos 10; occ = root (codes "e"); what = codes "push"; clip = None } ∷ []))
    ≡ codes "16 list 2\n  0 k open clip m\n  10 e push\n"
unfolding digits
of_believed_ones = refl

of_a_dump : text_of 8 (DumpIs One 1000 (codes "kind t" ∷ codes "point p" ∷ [])) ≡ codes "8 dump 2\n  horizon 1000\n  kind t\n  point p\n"
unfolding digits
of_a_dump = refl

of_a_dump_of_version_2 : text_of 3 (DumpIs Two 1000 (codes "kind t" ∷ [])) ≡ codes "3 dump 1\n  tmm 2\n  horizon 1000\n  kind t\n"
unfolding digits
of_a_dump_of_version_2 = refl

of_an_audit : text_of 9 AuditYes ≡ codes "9 audit yes\n"
unfolding digits
of_an_audit = refl

of_a_size : text_of 6 (SizeIs 99680) ≡ codes "6 size 99680\n"
unfolding digits
of_a_size = refl

of_want_of_memory : memory_text 3 ≡ codes "3 memory\n"
unfolding digits
of_want_of_memory = refl

a_plain_no_is_an_answer : is_refusal (Answered (No (seq []) 0)) ≡ false
a_plain_no_is_an_answer = refl

unordered_is_a_refusal : is_refusal (Answered Unordered) ≡ true
unordered_is_a_refusal = refl
