use Rattle.std.proofs.Common.{◌≡◌, ℕ, List, subst}
use Rattle.std.specs.Prelude.{nat_eq}
use Rattle.std.specs.List.Sorted.{IsPermutation}
use Rattle.std.proofs.lemmas.Cmp.{nat_eq_equiv}
use Rattle.std.proofs.lemmas.List.Sorted.{All-permutation, Contains-permutation}
use Rattle.std.proofs.lemmas.Map.Keys.{IsDistinct-IsPermutation}
use Rattle.spots.specs.Forest.{IsLive}
use Rattle.occ_tree.specs.Ranks.{nodes_of}
use Rattle.occ_tree.specs.Places.{forest}
use Rattle.belief_list.proofs.list.all_ranked.Goals as goal

moved : (lent nodes ranked : List ℕ) → lent ≡ nodes → IsPermutation lent ranked → IsPermutation nodes ranked
moved lent nodes ranked same = subst (λ (l : List ℕ). IsPermutation l ranked) same

pub returns : goal.returns
returns c =
    let nodes = c.in_ok-nodes.nodes.items in
    let ranked = nodes_of c.in_ok-ranked.ranked.items in
    let same = moved _ nodes ranked c.as_slice.ensures.value c.in_ok-ranked.ensures.same in record {
      live = All-permutation (IsLive (forest c.args.tree.now)) nodes ranked same c.in_ok-nodes.ensures.live;
      all = λ x live. Contains-permutation nodes ranked x same (c.in_ok-nodes.ensures.all x live);
      once = IsDistinct-IsPermutation nat_eq nat_eq_equiv.symm nodes ranked same c.in_ok-nodes.ensures.once;
      in_order = c.in_ok-ranked.ensures.in_order;
      dates = c.in_ok-ranked.ensures.ranked;
    }
