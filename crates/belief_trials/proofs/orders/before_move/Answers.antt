use Rattle.std.proofs.Common.{◌≡◌, sym, subst}
use Rattle.spots.specs.OfLists.{IsForestOf}
use Rattle.occ_tree.specs.Places.{forest}
use Rattle.occ_tree.specs.Standing.{State}
use Rattle.occ_tree.specs.Standing as standing
use Rattle.belief_trials.proofs.orders.before_move.Goals as goal

pub returns : goal.returns
returns c =
    let seen : IsForestOf c.args.premises.now.list.present c.args.premises.now.net.present (forest c.commit.new.self) =
    subst (λ (t : State). IsForestOf c.args.premises.now.list.present c.args.premises.now.net.present (standing.forest t)) (sym c.commit.ensures.present) c.in_ok-tree.ensures.seen.seen in
    (c.constrain.new.self.list.present, c.in_ok-constrain.ensures (forest c.commit.new.self) seen)
