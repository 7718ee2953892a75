-- The occurrences that stay, in the map before: without those that left, which bore on a decision
-- no more, it has the same outcome there.
use Rattle.std.proofs.Common.{◌≡◌, ◌∙◌, ℕ, true, List, [], ◌∷◌, Option, Some, None, refl, sym, ap, subst, inl, inr, ◌⊎◌}
use Rattle.std.specs.List.{Contains}
use Rattle.std.specs.Option.{option_map_or}
use Rattle.tmm_model.specs.Beliefs.{token_of}
use Rattle.tmm_model.specs.Maps.{built}
use Rattle.tmm_model.specs.Moments.{Moment}
use Rattle.tmm_model.specs.Standing.{Standing, far_in}
use Rattle.list_theory.proofs.Elements.{In, In-from_Contains, Contains-from_In}
use Rattle.belief_theory.specs.Outcomes.{outcome}
use Rattle.belief_theory.proofs.SoundBeliefs.{believed_occurs}
use Rattle.dist_net.specs.Net.{Net}
use Rattle.spots.specs.Forest.{Forest, Member, member, moment, moment_at}
use Rattle.spots.specs.OfLists.{IsForestOf, HasOccurrences}
use Rattle.revisions.specs.Maps.{watches}
use Rattle.revisions.specs.Walls.{AllOccur}
use Rattle.revisions.proofs.Lawful.{token_watched}
use Rattle.joined.specs.Gaps.{ReadsNoRival}
use Rattle.joined.specs.Sparing.{IsSparedAt}
use Rattle.joined.proofs.Sparing.{spared_for, spared_at, spared_stay}
use Rattle.belief_net.specs.Beginning.{those_in}

none_some : {X : Type 0} (x : X) → None ≡ Some x → ⊥
none_some x e = cc

-- ---- lists of which each is of one kind or of another

-- all are of the one kind, or some one is of the other
pub all_or_one : {X : Type 0} (P Q : X → Type 0) (xs : List X) → ((x : X) → In x xs → P x ⊎ Q x) → ((x : X) → In x xs → P x) ⊎ ((x : X) × In x xs × Q x)
all_or_one P Q [] h = inl (λ x at. absurd at)
all_or_one {X} P Q (y ∷ ys) h = by (h y (inl refl)) (all_or_one P Q ys (λ x at. h x (inr at)))
  where
    by : P y ⊎ Q y → ((x : X) → In x ys → P x) ⊎ ((x : X) × In x ys × Q x) → ((x : X) → In x (y ∷ ys) → P x) ⊎ ((x : X) × In x (y ∷ ys) × Q x)
    by (inr other) rest = inr (y, inl refl, other)
    by (inl one) (inr (x, at, other)) = inr (x, inr at, other)
    by (inl one) (inl all) = inl (λ x at. elim at [ inl is ↦ subst P is one | inr there ↦ all x there ])

-- those of the one kind
record Those {X : Type 0} (P Q : X → Type 0) (xs : List X) : Type 0 where
  list : List X
  own : (x : X) → In x list → In x xs × P x
  all : (x : X) → In x xs → In x list ⊎ Q x

those_of : {X : Type 0} (P Q : X → Type 0) (xs : List X) → ((x : X) → In x xs → P x ⊎ Q x) → Those P Q xs
those_of P Q [] h = record { list = []; own = λ x at. absurd at; all = λ x at. absurd at }
those_of {X} P Q (y ∷ ys) h = by (h y (inl refl)) (those_of P Q ys (λ x at. h x (inr at)))
  where
    by : P y ⊎ Q y → Those P Q ys → Those P Q (y ∷ ys)
    by (inl one) rest = record {
      list = y ∷ rest.list;
      own = λ x at. elim at [ inl is ↦ (inl is, subst P is one) | inr there ↦ (inr (rest.own x there).0, (rest.own x there).1) ];
      all = λ x at. elim at [ inl is ↦ inl (inl is) | inr there ↦ elim (rest.all x there) [ inl on ↦ inl (inr on) | inr off ↦ inr off ] ];
    }
    by (inr other) rest = record {
      list = rest.list;
      own = λ x at. (inr (rest.own x at).0, (rest.own x at).1);
      all = λ x at. elim at [ inl is ↦ inr (subst Q is other) | inr there ↦ rest.all x there ];
    }

-- ---- nodes that stay

-- what is in both is in each
pub of_both : (f g : Forest) (x : ℕ) (m : Member) → member (those_in f g) x ≡ Some m → (member f x ≡ Some m) × ((k : Member) × (member g x ≡ Some k))
of_both f g x m at = by (member g x) refl at
  where
    by : (o : Option Member) → member g x ≡ o → option_map_or (λ (k : Member). member f x) o None ≡ Some m → (member f x ≡ Some m) × ((k : Member) × (member g x ≡ Some k))
    by None is e = cc
    by (Some k) is e = (e, (k, is))

pub into_both : (f g : Forest) (x : ℕ) (m k : Member) → member f x ≡ Some m → member g x ≡ Some k → member (those_in f g) x ≡ Some m
into_both f g x m k at_f at_g = ap (λ o. option_map_or (λ (k : Member). member f x) o None) at_g ∙ at_f

-- the list before, of which nodes f are seen, and nodes g after
module _ (old : Standing) (net : Net) (f g : Forest) (seen : IsForestOf old net f) (holds : HasOccurrences (built old).believed f) where
  pub those_seen : IsForestOf old net (those_in f g)
  those_seen = record {
    network = seen.network;
    members = λ x m at. seen.members x m (of_both f g x m at).0;
    once = λ x y m n at there same. seen.once x y m n (of_both f g x m at).0 (of_both f g y n there).0 same;
  }

  -- an occurrence whose node stays, or whose node left
  abbrev Stays : Moment → Type 0
  Stays k = (x : ℕ) × (m : Member) × (member (those_in f g) x ≡ Some m) × (moment m ≡ k)

  abbrev pub Left : Moment → Type 0
  Left k = (x : ℕ) × (m : Member) × (member f x ≡ Some m) × (member g x ≡ None) × (moment m ≡ k)

  pub stays_or_left : (k : Moment) → Contains (built old).believed k → Stays k ⊎ Left k
  stays_or_left k on = let (x, m, at, is) = holds.all k on in by x m at is (member g x) refl
    where
      by : (x : ℕ) (m : Member) → member f x ≡ Some m → moment m ≡ k → (o : Option Member) → member g x ≡ o → Stays k ⊎ Left k
      by x m at is None gone = inr (x, m, at, gone, is)
      by x m at is (Some n) here = inl (x, m, into_both f g x m n at here, is)

  parts : Those Stays Left (built old).believed
  parts = those_of Stays Left (built old).believed (λ k on. stays_or_left k (Contains-from_In (built old).believed k on))

  -- the occurrences that stay
  pub staying : List Moment
  staying = parts.list

  pub staying_believed : (k : Moment) → Contains (staying) k → Contains (built old).believed k
  unfolding staying
  staying_believed k on = Contains-from_In (built old).believed k (parts.own k (In-from_Contains parts.list k on)).0

  pub staying_or_left : (k : Moment) → Contains (built old).believed k → Contains (staying) k ⊎ Left k
  unfolding staying
  staying_or_left k on = elim (parts.all k (In-from_Contains (built old).believed k on)) [ inl there ↦ inl (Contains-from_In parts.list k there) | inr left ↦ inr left ]

  staying_node : (k : Moment) → Contains (staying) k → Stays k
  unfolding staying
  staying_node k on = (parts.own k (In-from_Contains parts.list k on)).1

  pub holds_staying : HasOccurrences (staying) (those_in f g)
  holds_staying = record {
    own = λ x m at.
        let (at_f, (k, at_g)) = of_both f g x m at in
        elim (staying_or_left (moment m) (holds.own x m at_f)) [
          | inl on ↦ on
          | inr (y, n, there, gone, is) ↦ absurd (none_some k (sym gone ∙ ap (member g) (seen.once y x n m there at_f is) ∙ at_g))
        ];
    all = λ k on. staying_node k on;
    once = λ x y m n at there same. seen.once x y m n (of_both f g x m at).0 (of_both f g y n there).0 same;
  }

  staying_occur : AllOccur old (staying)
  staying_occur x on = believed_occurs old seen.network.sound x (staying_believed x on)

  pub occur_staying : AllOccur old (staying)
  occur_staying = staying_occur

  -- **Where each token that left, and that the rule watches, bore on no decision at the node of an
  -- event that stays, the outcome there is that of the map of what stays.**
  pub without_left : (t : ℕ) (node : Member) → member f t ≡ Some node → (k : Member) → member g t ≡ Some k → (r : List ℕ) → ReadsNoRival old r
      → ((y : ℕ) (m : Member) → member f y ≡ Some m → member g y ≡ None → watches old r (moment m) ≡ true → IsSparedAt net f (those_in f g) (moment m) t)
      → outcome old (far_in old.premises) (built old).believed (moment_at (those_in f g) t) r ≡ outcome old (far_in old.premises) (staying) (moment_at (those_in f g) t) r
  without_left t node at_f n at_g r plain spared =
      spared_stay old (built old).believed (staying) (moment_at (those_in f g) t) r seen.network.sound (believed_occurs old seen.network.sound) staying_occur
      (λ x on. elim (staying_or_left x on) [
        | inl stays ↦ inl stays
        | inr (y, m, there, gone, is) ↦ inr (λ k of reads.
            let begins : token_of old (moment m) ≡ Some k = ap (token_of old) is ∙ of in
            spared_for old (built old).believed (staying) (moment_at (those_in f g) t) r k
            (spared_at old net f (those_in f g) seen those_seen (built old).believed (staying) holds holds_staying t node at_f (into_both f g t node n at_f at_g) (moment m)
            (spared y m there gone (token_watched old r (moment m) k begins reads)) k begins)
            (plain k.fact))
      ])
      (λ x on. inl (staying_believed x on))
