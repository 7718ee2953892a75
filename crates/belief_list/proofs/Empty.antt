-- Forests without nodes.
use Rattle.std.proofs.Common.{◌≡◌, ℕ, [], arith, sym, ◌∙◌, ap}
use Rattle.std.specs.Prelude.{None, Some}
use Rattle.std.proofs.lemmas.List.Elements.{All-nil}
use Rattle.tmm_model.specs.Standing.{empty_list}
use Rattle.dist_net.specs.Net.{Net}
use Rattle.net_theory.specs.Fits.{IsNetOf}
use Rattle.spots.specs.Forest.{Forest, member}
use Rattle.spots.proofs.Nodes.{node_at}
use Rattle.occ_tree.specs.OfLists.{IsTreeIn}
use Rattle.occ_tree.specs.Standing.{Kept, present, committed, forest}
use Rattle.supports.specs.Edited.{old_forest}
use Rattle.belief_list.specs.LeftNodes.{AreWords}
use Rattle.belief_list.specs.Rows.{IsLiveRow, IsListing}

-- no rows list no nodes
pub none_listed : (f : Forest) → ((x : ℕ) → member f x ≡ None) → IsListing f []
none_listed f none = record {
  live = All-nil (IsLiveRow f);
  all = λ x live. let (m, here) = node_at f x live in let n = none x in cc;
  once = λ r q at_r at_q same. absurd (omega (arith, at_r.1));
  apart = λ x y m n here there same. let e = none x in cc;
}

-- nothing is told of no nodes
pub none_told : (old new : Forest) → ((x : ℕ) → member old x ≡ None) → AreWords old new []
none_told old new none = record {
  all = λ x gone derived. let (m, here) = node_at old x gone.0 in let no : Some m ≡ None = sym here ∙ none x in absurd (cc (no));
  own = λ n at gone. absurd (omega (arith, at.1));
}

-- there was no node at the last commit either
pub none_then : (k : Kept) → committed k ≡ present k → ((x : ℕ) → forest (present k) x ≡ None) → (x : ℕ) → member (old_forest k) x ≡ None
none_then k same none x = ap (λ s. forest s x) same ∙ none x

-- where there are no nodes, the empty list is one that they are of
pub none_seen : (net : Net) (k : Kept) → IsNetOf empty_list net → ((x : ℕ) → forest (present k) x ≡ None) → IsTreeIn net k
none_seen net k network none = record {
  list = (
    empty_list,
    record {
      network = network;
      members = λ x m here. (let no : Some m ≡ None = sym here ∙ none x in absurd (cc (no)));
      once = λ x y m n here there same. (let no : Some m ≡ None = sym here ∙ none x in absurd (cc (no)));
    },
  );
  dated = λ x live. (let (m, here) = node_at (forest (present k)) x live in let no : Some m ≡ None = sym here ∙ none x in absurd (cc (no)));
}
