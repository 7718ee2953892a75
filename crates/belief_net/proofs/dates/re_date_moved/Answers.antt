use Rattle.std.proofs.Common.{◌≡◌, ◌∙◌, List, ℕ, [], ◌∷◌, length, None, Some, refl, sym, arith, eqb-true}
use Rattle.row_links.specs.Lists.{first_or}
use Rattle.spots.proofs.Nodes.{live_at}
use Rattle.occ_tree.specs.Places.{forest}
use Rattle.occ_tree.specs.Standing.{present, below}
use Rattle.occ_tree.proofs.KeptDates.{roots_date_all}
use Rattle.occ_tree.proofs.Walked.{first_is_on}
use Rattle.belief_net.proofs.Redated.{none_moved, keeps_dated, keeps_stayed}
use Rattle.belief_net.proofs.dates.re_date_moved.Goals as goal

pub early-requires : goal.early-requires
early-requires c =
    let first : first_or None (below (present c.args.tree.now) None) ≡ Some c.in-Some.root = sym c.first_root.ensures.first ∙ c.in-Some.is in
    let (m, at, links) = c.first_root.ensures.roots.roots c.in-Some.root (first_is_on (below (present c.args.tree.now) None) c.in-Some.root first) in
    live_at (forest c.args.tree.now) c.in-Some.root m at

no_items : (l : List ℕ) → length l ≡ 0 → l ≡ []
no_items [] e = refl
no_items (x ∷ l) e = absurd (omega (arith, e))

pub returns-in-Some-clause-dated : goal.returns-in-Some-clause-dated
returns-in-Some-clause-dated c =
    let none : length c.moved.result.now ≡ 0 = eqb-true (length c.moved.result.now) 0 (sym c.is_empty.ensures ∙ c.if-is_empty.true) in
    roots_date_all c.args.net.now.present (present c.args.tree.now) c.requires.list c.early.ensures.follow c.first_root.ensures.roots
    (none_moved c.args.net.now c.args.tree.now c.requires.list c.requires.before (sym c.moved.ensures.list ∙ no_items c.moved.result.now none) c.moved.ensures.moved c.requires.start)

pub returns-in_err-re_date_all-clause-keeps : goal.returns-in_err-re_date_all-clause-keeps
returns-in_err-re_date_all-clause-keeps c = keeps_stayed c.args.tree.now c.re_date_all.new.self c.in_err-re_date_all.ensures.err

pub returns-clause-dated : goal.returns-clause-dated
returns-clause-dated c = c.in_ok-re_date_all.ensures.ok.dated

pub returns-clause-keeps : goal.returns-clause-keeps
returns-clause-keeps c = keeps_dated c.args.net.now.present c.args.tree.now c.re_date_all.new.self c.in_ok-re_date_all.ensures.ok
