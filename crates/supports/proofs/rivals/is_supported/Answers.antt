use Rattle.std.proofs.Common.{◌∙◌, sym}
use Rattle.occ_tree.specs.Places.{forest}
use Rattle.occ_tree.specs.Standing.{present}
use Rattle.supports.proofs.AmongLists.{is_class_list, support_among}
use Rattle.supports.proofs.ByDate.{tree_in}
use Rattle.supports.proofs.ListsThere.{all_live, all_by_date}
use Rattle.supports.proofs.rivals.is_supported.Goals as goal

pub is_held-requires-clause-all_live : goal.is_held-requires-clause-all_live
is_held-requires-clause-all_live c = all_live (tree_in c.requires.seen) c.args.map.now.standing.now.present c.args.fact c.in-Some.class c.have_tokens.ensures.rows

pub is_held-requires-clause-by_date : goal.is_held-requires-clause-by_date
is_held-requires-clause-by_date c = all_by_date (tree_in c.requires.seen) c.args.map.now.standing.now.present c.args.fact c.in-Some.class c.have_tokens.ensures.rows c.have_tokens.ensures.in_order

pub is_held-requires-clause-by_class : goal.is_held-requires-clause-by_class
is_held-requires-clause-by_class c = is_class_list c.args.map.now.standing.now.present (present c.args.map.now.tree.now).tokens c.args.fact c.in-Some.class (forest c.args.map.now.tree.now) c.have_tokens.ensures.rows

pub returns : goal.returns
returns c b holds =
    c.is_held.ensures
    ∙ support_among c.requires.seen.seen holds (present c.args.map.now.tree.now).tokens c.have_tokens.ensures.rows c.args.fact c.in-Some.class (sym c.class_of.ensures ∙ c.in-Some.is)
    c.args.p c.args.q c.requires.p c.requires.q
