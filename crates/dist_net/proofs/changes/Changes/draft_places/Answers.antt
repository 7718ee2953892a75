use Rattle.std.proofs.Common.{ℕ, List, sym, subst}
use Rattle.dist_net.specs.Changes.{Covers, Listed}
use Rattle.dist_net.proofs.changes.Changes.draft_places.Goals as goal

pub returns-clause-more : goal.returns-clause-more
returns-clause-more c k covered = c.note_all.ensures.kept k (subst (λ (s : Listed). Covers s.drafted k) (sym c.self.view_is) covered)

pub returns-clause-places : goal.returns-clause-places
returns-clause-places c k covered =
    c.note_all.ensures.listed k
    (subst (λ (t : List ℕ). Covers t k) (sym c.deref.ensures.value) (subst (λ (s : Listed). Covers s.places k) (sym c.self.view_is) covered))
