-- What an audit answers at the end of the rows.
use Rattle.std.proofs.Common.{◌≡◌, ◌≢◌, ◌∙◌, ℕ, List, [], map, take, refl, sym, subst, arith}
use Rattle.std.proofs.lemmas.List.Elements.{All-nil, All-contains}
use Rattle.std.specs.List.{All, Contains}
use Rattle.std.specs.Prelude.{Option, Some, None, IsSome}
use Rattle.tmm_model.specs.declared.point.PointName.{PointName}
use Rattle.tmm_model.specs.declared.point.PointName.TheVariants.{Begin}
use Rattle.tmm_model.specs.Beliefs.{root_of, roots}
use Rattle.tmm_model.specs.Moments.{Moment, At, After}
use Rattle.list_theory.specs.WellNamed.{IsSound}
use Rattle.tmm_model.specs.Standing.{Standing, name_of}
use Rattle.list_theory.proofs.Elements.{In, In-from_Contains, Contains-from_In, In-filter_map}
use Rattle.dist_net.specs.Net.{Net}
use Rattle.net_theory.specs.Fits.{IsNetOf}
use Rattle.spots.specs.Forest.{Forest, member, IsLive, moment_at}
use Rattle.occ_tree.specs.Places.{forest}
use Rattle.occ_tree.specs.Standing.{present}
use Rattle.occ_tree.proofs.KeptDates.{none_dated}
use Rattle.spots.proofs.Nodes.{node_at}
use Rattle.spots.proofs.Grown.{root_name, seen_first, holds_first}
use Rattle.just_check.specs.declared.auditing.Checked.{Checked}
use Rattle.just_check.specs.declared.expected.Origin.{Origin}
use Rattle.just_check.specs.declared.expected.Expected.{Expected}
use Rattle.just_check.specs.Audited.{rows_of, IsChecked, IsDecided}
use Rattle.belief_theory.specs.Believed.{believed_in_order}
use Rattle.just_check.specs.Checking.{FiresIn, AreSoFar, AwaitsRoots, is_due, IsDue, Expects}
use Rattle.just_check.specs.Origins.{comes_of, comes_from, has_event, entry_at}
use Rattle.just_check.proofs.Deciding.{node_in}
use Rattle.just_check.proofs.Joining.{one_of}
use Rattle.just_check.proofs.Origins.{node_for}
use Rattle.just_check.proofs.Prefixes.{right_first, right_in_order, list_right}

-- ---- before the first row

-- a tree without nodes holds no occurrence
first_so_far : (s : Standing) (net : Net) (f : Forest) → IsNetOf s net → ((x : ℕ) → member f x ≡ None) → AreSoFar s net f []
first_so_far s net f network none = record {
  seen = seen_first s net f network none;
  holds = holds_first f none;
  first = record { occurs = λ x at. absurd at; fires = λ t r at. absurd at; rising = tt };
}

-- all that is declared is expected
first_expects : (s : Standing) (f : Forest) (e : Expected) → ((x : ℕ) → member f x ≡ None) → AwaitsRoots (roots s) e → Expects s f [] [] e
first_expects s f e none are = record {
  knows = record {
    holds = holds_first f none;
    closed = λ t r at. absurd at;
    nodes = λ o x is. let never : Some None ≡ Some (Some x) = sym (are.own o (subst IsSome (sym is) refl)).0 ∙ is in absurd (cc);
    all = λ o x event live is. let (m, here) = node_at f x live in let never : None ≡ Some m = sym (none x) ∙ here in absurd (cc);
  };
  due = λ o. ((λ some. to o.event o.name (are.own o some).1.0 (are.own o some).1.1), (λ h. from o.event o.name h));
}
  where
    to : (event : Option ℕ) (name : List ℕ) → event ≡ None → In (At (Begin name)) (roots s) → is_due s f [] [] event name
    to None name e at = at
    to (Some x) name e at = absurd (cc)

    from : (event : Option ℕ) (name : List ℕ) → is_due s f [] [] event name → IsSome (entry_at e (record { event = event; name = name }))
    from None name h = are.all (record { event = None; name = name }) (refl, h)
    from (Some x) name h = absurd h.0

pub checked_first : (s : Standing) (net : Net) (c : Checked) → IsNetOf s net → ((x : ℕ) → member (forest c.tree) x ≡ None) → c.nodes.items ≡ [] → c.decided ≡ 0 → AwaitsRoots (roots s) c.expected → IsChecked s net c
checked_first s net c network none no_nodes first are = record {
  taken = record {
    so_far = subst (λ ns. AreSoFar s net (forest c.tree) (map (moment_at (forest c.tree)) ns)) (sym no_nodes) (first_so_far s net (forest c.tree) network none);
    dated = none_dated net (present c.tree) none;
    live = subst (All (IsLive (forest c.tree))) (sym no_nodes) (All-nil (IsLive (forest c.tree)));
    within = omega (arith, first);
    expects = subst (λ ns. Expects s (forest c.tree) (map (moment_at (forest c.tree)) ns) (take c.decided ns) c.expected) (sym no_nodes)
        (subst (λ n. Expects s (forest c.tree) [] (take n []) c.expected) (sym first) (first_expects s (forest c.tree) c.expected none are));
  };
  past = λ x at. absurd (subst (λ n. In x (take n c.nodes.items)) first at);
}

-- ---- at the end of the rows

module _ (s : Standing) (net : Net) (c : Checked) (decided : IsDecided s net c) where
  sound : IsSound s
  sound = decided.so_far.seen.network.sound

  abbrev b : List Moment
  b = rows_of c

  row_of : (x : ℕ) → IsLive (forest c.tree) x → In (moment_at (forest c.tree) x) b
  row_of x live = one_of (forest c.tree) b x decided.so_far.holds live

  -- where all stands that is expected, each that is due stands among the rows
  due_stands : ((o : Origin) → entry_at c.expected o ≢ Some None) → (o : Origin) → IsDue s (forest c.tree) b c.nodes.items o → In (comes_from (forest c.tree) o) b
  due_stands stands o due = by (entry_at c.expected o) refl ((decided.expects.due o).1 due)
    where
      by : (v : Option (Option ℕ)) → entry_at c.expected o ≡ v → IsSome v → In (comes_from (forest c.tree) o) b
      by None e some = absurd (cc)
      by (Some None) e some = absurd (stands o e)
      by (Some (Some x)) e some = let (live, is) = decided.expects.knows.nodes o x e in subst (λ k. In k b) is (row_of x live)

  -- **Where all stands that is expected, the rows are the believed occurrences in order.**
  pub is_list : ((o : Origin) → entry_at c.expected o ≢ Some None) → b ≡ believed_in_order s
  is_list stands = right_in_order s sound b decided.so_far.first.rising (right_first s sound b decided.so_far.first declared brought)
    where
      declared : (p : PointName) → Contains (roots s) (At p) → In (At p) b
      declared p at =
          let (q, there, made) = In-filter_map root_of s.premises (At p) (In-from_Contains (roots s) (At p) at) in
          let same : At p ≡ At (Begin (name_of q)) = root_name q (At p) made in
          subst (λ k. In k b) (sym same)
          (due_stands stands (record { event = None; name = name_of q }) (subst (λ k. In k (roots s)) same (In-from_Contains (roots s) (At p) at)))

      brought : (t : Moment) (r : List ℕ) → FiresIn s b t r → In (After t r) b
      brought t r fires =
          let (x, live, is) = node_for (forest c.tree) b c.expected decided.expects.knows t (In-from_Contains b t fires.believed) in
          subst (λ m. In (After m r) b) is
          (due_stands stands (record { event = Some x; name = r }) (node_in s net c decided.so_far decided.live x live, subst (λ m. FiresIn s b m r) (sym is) fires))

  -- and where they are, all stands
  pub all_there : b ≡ believed_in_order s → (o : Origin) → entry_at c.expected o ≢ Some None
  all_there is o awaited =
      let due = (decided.expects.due o).0 (subst IsSome (sym awaited) refl) in
      let (x, live, made) = node_for (forest c.tree) b c.expected decided.expects.knows (comes_from (forest c.tree) o) (by o.event o.name due) in
      let never : Some None ≡ Some (Some x) = sym awaited ∙ decided.expects.knows.all o x (event_of o.event o.name due) live made in
      cc
    where
      by : (event : Option ℕ) (name : List ℕ) → is_due s (forest c.tree) b c.nodes.items event name → In (comes_of (forest c.tree) event name) b
      by None name h = In-from_Contains b (At (Begin name)) ((list_right s sound b is (At (Begin name))).1 (Contains-from_In (roots s) (At (Begin name)) h))
      by (Some t) name h = In-from_Contains b (After (moment_at (forest c.tree) t) name) ((list_right s sound b is (After (moment_at (forest c.tree) t) name)).1 h.1)

      event_of : (event : Option ℕ) (name : List ℕ) → is_due s (forest c.tree) b c.nodes.items event name → has_event (forest c.tree) event
      event_of None name h = tt
      event_of (Some t) name h = All-contains (IsLive (forest c.tree)) c.nodes.items t decided.live (Contains-from_In c.nodes.items t h.0)
