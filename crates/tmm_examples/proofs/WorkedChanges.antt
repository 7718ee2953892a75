-- What edits change, in worked scripts.
use Rattle.std.proofs.Common.{◌≡◌, ◌++◌, [], ◌∷◌, pos}
use Rattle.std.specs.Prelude.{codes}
use Rattle.tmm_model.specs.declared.bound.Bound.TheVariants.{Finite}
use Rattle.tmm_model.specs.declared.point.PointName.TheVariants.{Begin}
use Rattle.tmm_model.specs.declared.premise.Edit.{Edit}
use Rattle.tmm_model.specs.declared.premise.Edit.TheVariants.{Add, Erase, Horizon}
use Rattle.tmm_model.specs.declared.premise.Premise.TheVariants.{Point, Event, Token, Dist}
use Rattle.tmm_model.specs.Answers.{fails, unordered, clipped, reports}
use Rattle.tmm_model.specs.Changes.{Delta, delta, changes}
use Rattle.tmm_model.specs.Maps.{built}
use Rattle.tmm_model.specs.Moments.{Moment, After}
use Rattle.tmm_model.specs.Standing.{Standing}
use Rattle.tmm_model.specs.Edits.{next_list}
use Rattle.belief_theory.proofs.FarTables.{of_map, of_maps}
use Rattle.tmm_examples.proofs.WorkedScripts.{within, rule, root, effect, dated, apart_by, two_tokens, before_push, push, one_event, lamp, shut_at_five, push_at_ten, chain, guarded}

abbrev pub none : Delta
none = record { erased = []; left = []; entered = []; loose = []; clips = []; broken = []; mended = [] }

abbrev k : Moment
k = root (codes "k")

abbrev m : Moment
m = root (codes "m")

abbrev n : Moment
n = root (codes "n")

abbrev er : Moment
er = effect (codes "e") (codes "r")

-- what an edit changes
abbrev changed : Standing → Edit → Delta
changed s edit = changes s (next_list s edit)

-- ---- constraints

-- dist d k m 5 5, and a tie
a_clip : changed (within 1000 two_tokens) (Add (apart_by (codes "d") (codes "k") (codes "m") 5)) ≡ record none { clips = (k, m) ∷ [] }
a_clip = of_maps delta (within 1000 two_tokens) (next_list (within 1000 two_tokens) (Add (apart_by (codes "d") (codes "k") (codes "m") 5)))

no_clip : changed (within 1000 two_tokens) (Add (apart_by (codes "d") (codes "k") (codes "m") 0)) ≡ none
no_clip = of_maps delta (within 1000 two_tokens) (next_list (within 1000 two_tokens) (Add (apart_by (codes "d") (codes "k") (codes "m") 0)))

-- point a / point b / dist d a b 3 7 / point c / dist w c b 0 0, and then: erase a
abbrev three_points : Standing
three_points =
    within 1000 (
    Point (codes "a") ∷ Point (codes "b")
    ∷ Dist (codes "d") (Begin (codes "a")) (Begin (codes "b")) (Finite (pos 3)) (Finite (pos 7))
    ∷ Point (codes "c") ∷ apart_by (codes "w") (codes "c") (codes "b") 0 ∷ [])

a_point_goes : changed three_points (Erase (codes "a")) ≡ record none { erased = codes "a" ∷ codes "d" ∷ [] }
a_point_goes = of_maps delta three_points (next_list three_points (Erase (codes "a")))

-- ---- effects

-- event e push comes before its date is known: it may be at 0, after k
an_effect : changed (within 1000 before_push) (Add (Event (codes "e") (codes "push"))) ≡ record none { entered = er ∷ []; clips = (k, er) ∷ [] }
an_effect = of_maps delta (within 1000 before_push) (next_list (within 1000 before_push) (Add (Event (codes "e") (codes "push"))))

-- erase r
a_rule_goes : changed (within 1000 push) (Erase (codes "r")) ≡ record none { erased = codes "r" ∷ []; left = er ∷ []; loose = k ∷ [] }
a_rule_goes = of_maps delta (within 1000 push) (next_list (within 1000 push) (Erase (codes "r")))

-- rule q push 4 6 open: the new effect clips the other one of its event
a_sibling : changed (within 1000 push) (Add (rule (codes "q") (codes "push") 4 6 (codes "open") []))
    ≡ record none { entered = effect (codes "e") (codes "q") ∷ []; clips = (er, effect (codes "e") (codes "q")) ∷ [] }
a_sibling = of_maps delta (within 1000 push) (next_list (within 1000 push) (Add (rule (codes "q") (codes "push") 4 6 (codes "open") [])))

-- event f u, beside event e t of unknown order
an_event_beside : changed (within 1000 one_event) (Add (Event (codes "f") (codes "u")))
    ≡ record none { entered = effect (codes "f") (codes "s") ∷ []; clips = (root (codes "p"), effect (codes "f") (codes "s")) ∷ [] }
an_event_beside = of_maps delta (within 1000 one_event) (next_list (within 1000 one_event) (Add (Event (codes "f") (codes "u"))))

-- ---- a lamp that a push lights where the door is open

-- the door is shut at 5
abbrev shut : Standing
shut = within 1000 (lamp ++ shut_at_five)

-- event e push: it may be before the door is shut
lit_perhaps : changed shut (Add (Event (codes "e") (codes "push"))) ≡ record none { entered = er ∷ []; clips = (n, er) ∷ [] }
lit_perhaps = of_maps delta shut (next_list shut (Add (Event (codes "e") (codes "push"))))

-- dist w start e 10 10: it is after
abbrev pushed_soon : Standing
pushed_soon = within 1000 (lamp ++ shut_at_five ++ Event (codes "e") (codes "push") ∷ [])

not_lit : changed pushed_soon (Add (dated (codes "w") (codes "e") 10)) ≡ record none { left = er ∷ []; loose = n ∷ [] }
not_lit = of_maps delta pushed_soon (next_list pushed_soon (Add (dated (codes "w") (codes "e") 10)))

-- erase m
abbrev pushed_after : Standing
pushed_after = within 1000 (lamp ++ shut_at_five ++ push_at_ten)

lit : changed pushed_after (Erase (codes "m")) ≡ record none { erased = codes "m" ∷ codes "x" ∷ []; entered = er ∷ []; loose = k ∷ []; clips = (n, er) ∷ [] }
lit = of_maps delta pushed_after (next_list pushed_after (Erase (codes "m")))

-- token m shut again, of unknown date, and then: dist x start m 5 5
abbrev shut_sometime : Standing
shut_sometime = within 1000 (lamp ++ push_at_ten ++ Token (codes "m") (codes "shut") ∷ [])

shut_perhaps : changed (within 1000 (lamp ++ push_at_ten)) (Add (Token (codes "m") (codes "shut"))) ≡ none
shut_perhaps = of_maps delta (within 1000 (lamp ++ push_at_ten)) shut_sometime

not_lit_again : changed shut_sometime (Add (dated (codes "x") (codes "m") 5)) ≡ record none { left = er ∷ []; loose = n ∷ []; clips = (k, m) ∷ [] }
not_lit_again = of_maps delta shut_sometime (next_list shut_sometime (Add (dated (codes "x") (codes "m") 5)))

-- ---- a chain of effects, each 10 after the one before

abbrev e1 : Moment
e1 = effect (codes "e") (codes "r")

abbrev e2 : Moment
e2 = After e1 (codes "r")

abbrev e3 : Moment
e3 = After e2 (codes "r")

-- rule r t 10 10 t at horizon 35, and then: horizon 20
a_chain : changes (within 35 []) (within 35 (chain 10)) ≡ record none { entered = e1 ∷ e2 ∷ e3 ∷ [] }
a_chain = of_maps delta (within 35 []) (within 35 (chain 10))

a_nearer_horizon : changed (within 35 (chain 10)) (Horizon 20) ≡ record none { left = e3 ∷ [] }
a_nearer_horizon = of_maps delta (within 35 (chain 10)) (within 20 (chain 10))

-- ---- protections: g is that the door is open from k to p, at 8

-- token m shut is there, and then: dist x start m 5 5
abbrev shut_later : Standing
shut_later = within 1000 (guarded ++ Token (codes "m") (codes "shut") ∷ [])

g_breaks : changed shut_later (Add (dated (codes "x") (codes "m") 5)) ≡ record none { clips = (k, m) ∷ []; broken = (codes "g", fails ((k, clipped m) ∷ []) 0) ∷ [] }
g_breaks = of_maps delta shut_later (next_list shut_later (Add (dated (codes "x") (codes "m") 5)))

abbrev shut_early : Standing
shut_early = within 1000 (guarded ++ shut_at_five)

g_is_broken : reports (built shut_early) ≡ (codes "g", fails ((k, clipped m) ∷ []) 0) ∷ []
g_is_broken = of_map reports shut_early

-- erase x, and then: dist x start m 9 9
g_mends : changed shut_early (Erase (codes "x")) ≡ record none { erased = codes "x" ∷ []; loose = k ∷ []; mended = codes "g" ∷ [] }
g_mends = of_maps delta shut_early (next_list shut_early (Erase (codes "x")))

late_enough : changed shut_later (Add (dated (codes "x") (codes "m") 9)) ≡ record none { clips = (k, m) ∷ [] }
late_enough = of_maps delta shut_later (next_list shut_later (Add (dated (codes "x") (codes "m") 9)))

-- erase z: the protection is not mended by losing its order
not_mended : changed shut_early (Erase (codes "z")) ≡ record none { erased = codes "z" ∷ []; loose = k ∷ [] }
not_mended = of_maps delta shut_early (next_list shut_early (Erase (codes "z")))

is_unordered : reports (built (next_list shut_early (Erase (codes "z")))) ≡ (codes "g", unordered) ∷ []
is_unordered = of_map reports (next_list shut_early (Erase (codes "z")))

nothing_is_broken : reports (built (next_list shut_later (Add (dated (codes "x") (codes "m") 9)))) ≡ []
nothing_is_broken = of_map reports (next_list shut_later (Add (dated (codes "x") (codes "m") 9)))

-- the door of the lamp is shut at 5, before there is a push
abbrev shut_undated : Standing
shut_undated = within 1000 (lamp ++ Token (codes "m") (codes "shut") ∷ [])

shut_at_last : changed shut_undated (Add (dated (codes "x") (codes "m") 5)) ≡ record none { clips = (k, m) ∷ [] }
shut_at_last = of_maps delta shut_undated (next_list shut_undated (Add (dated (codes "x") (codes "m") 5)))
