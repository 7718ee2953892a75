use Rattle.std.proofs.Common.{◌≡◌, ◌<◌, ℕ, ◌+◌, List, [], ◌∷◌, ◌++◌, length, take, None, refl, sym, subst, inl, inr, arith}
use Rattle.std.proofs.lemmas.List.{take_all}
use Rattle.supports.proofs.Taken.{next_taken}
use Rattle.tmm_model.specs.Standing.{Standing, premise_in}
use Rattle.list_theory.proofs.Elements.{In, In-left, In-right, In-cases}
use Rattle.belief_table.specs.declared.state.Beliefs.{Beliefs}
use Rattle.belief_table.specs.Erasing.{Tells, fact_of, Notes, IsFreeOf}
use Rattle.bearing.specs.Gone.{gone_of}
use Rattle.belief_table.proofs.Thinned.{once_less, under_less, free_less, thins_none, tells_none, notes_none, spares_none, keep_stays, thins_on, tells_on, notes_on, spares_on, keep_on}
use Rattle.belief_table.proofs.erasing.erase.Goals as goal

pub loop-name-init : goal.loop-name-init
loop-name-init c =
    let b = c.args.beliefs.now in
    record {
      sheds = record {
        thins = thins_none b c.requires.events;
        tells = subst (Tells b.tree b.tree []) (sym c.nothing_yet-departed.ensures.left) (tells_none b.tree []);
        notes = subst (Notes (λ m. m.class) b.tree b.tree []) (sym c.nothing_yet-departed.ensures.classes) (notes_none (λ m. m.class) b.tree []);
        facts = subst (Notes fact_of b.tree b.tree []) (sym c.nothing_yet-departed.ensures.facts) (notes_none fact_of b.tree []);
        tokens = subst (Notes gone_of b.tree b.tree []) (sym c.nothing_yet-departed.ensures.tokens) (notes_none gone_of b.tree []);
      };
      spares = λ s out. spares_none s b;
      free = λ name at. absurd at;
      last = keep_stays b;
    }

pub erase_premise-requires-clause-once : goal.erase_premise-requires-clause-once
erase_premise-requires-clause-once c = once_less c.args.beliefs.now c.loop-name.beliefs c.loop-name.invariant.sheds.thins c.requires.once

pub erase_premise-requires-clause-events : goal.erase_premise-requires-clause-events
erase_premise-requires-clause-events c = c.loop-name.invariant.sheds.thins.events

pub erase_premise-requires-clause-under : goal.erase_premise-requires-clause-under
erase_premise-requires-clause-under c = let (s, under) = c.requires.under in (s, under_less c.args.beliefs.now c.loop-name.beliefs c.loop-name.invariant.sheds.thins s under)

-- what holds of the first names and of one more holds of these
more_out : (s : Standing) (front more : List (List ℕ)) (name : List ℕ) → more ≡ front ++ name ∷ []
    → ((n : List ℕ) → In n more → premise_in s.premises n ≡ None) → ((n : List ℕ) → In n front → premise_in s.premises n ≡ None) × (premise_in s.premises name ≡ None)
more_out s front more name is out = (
  (λ n at. out n (subst (In n) (sym is) (In-left front (name ∷ []) n at))),
  out name (subst (In name) (sym is) (In-right front (name ∷ []) name (inl refl))),
)

more_free : (b : Beliefs) (front more : List (List ℕ)) (name : List ℕ) → more ≡ front ++ name ∷ [] → ((n : List ℕ) → In n front → IsFreeOf b n) → IsFreeOf b name
    → (n : List ℕ) → In n more → IsFreeOf b n
more_free b front more name is first last n at = elim (In-cases front (name ∷ []) n (subst (In n) is at)) [
  | inl there ↦ first n there
  | inr here ↦ elim here [ inl same ↦ subst (IsFreeOf b) same last | inr none ↦ absurd none ]
]

pub loop-name-preserved : goal.loop-name-preserved
loop-name-preserved c =
    let old = c.args.beliefs.now in
    let mid = c.loop-name.beliefs in
    let new = c.erase_premise.new.beliefs in
    let names = c.args.names.now in
    let i = c.loop-name.name-index in
    let inv = c.loop-name.invariant in
    let e = c.in_ok-erase_premise.ensures in
    let within : i < length names = omega (arith, c.loop-name-test.true) in
    record {
      sheds = record {
        thins = thins_on old mid new inv.sheds.thins e.sheds.thins;
        tells = tells_on old mid new inv.sheds.thins e.sheds.thins [] c.loop-name.departed.left.items c.erase_premise.new.departed.left.items c.requires.once inv.sheds.tells e.sheds.tells;
        notes = notes_on old mid new inv.sheds.thins e.sheds.thins (λ m. m.class) [] c.loop-name.departed.classes c.erase_premise.new.departed.classes inv.sheds.notes e.sheds.notes;
        facts = notes_on old mid new inv.sheds.thins e.sheds.thins fact_of [] c.loop-name.departed.facts c.erase_premise.new.departed.facts inv.sheds.facts e.sheds.facts;
        tokens = notes_on old mid new inv.sheds.thins e.sheds.thins gone_of [] c.loop-name.departed.tokens.items c.erase_premise.new.departed.tokens.items inv.sheds.tokens e.sheds.tokens;
      };
      spares = λ s out.
          let (first, this) = more_out s (take i names) (take (i + 1) names) c.name-item.result (next_taken names i c.name-item.result within c.name-item.is) out in
          spares_on old mid new inv.sheds.thins e.sheds.thins s (inv.spares s first) (e.spares s this);
      free = more_free new (take i names) (take (i + 1) names) c.name-item.result (next_taken names i c.name-item.result within c.name-item.is) (λ n at. free_less mid new e.sheds.thins n (inv.free n at)) e.free;
      last = keep_on old mid new inv.last e.last;
    }

pub returns-in_err-erase_premise-clause-last : goal.returns-in_err-erase_premise-clause-last
returns-in_err-erase_premise-clause-last c = keep_on c.args.beliefs.now c.loop-name.beliefs c.erase_premise.new.beliefs c.loop-name.invariant.last c.erase_premise.ensures.last

pub returns-clause-spares : goal.returns-clause-spares
returns-clause-spares c =
    let names = c.args.names.now in
    let all : take c.loop-name.name-index names ≡ names = take_all c.loop-name.name-index names (omega (arith, c.loop-name-test.false)) in
    λ s out. c.loop-name.invariant.spares s (λ n at. out n (subst (In n) all at))

pub returns-clause-free : goal.returns-clause-free
returns-clause-free c =
    let names = c.args.names.now in
    let all : take c.loop-name.name-index names ≡ names = take_all c.loop-name.name-index names (omega (arith, c.loop-name-test.false)) in
    λ n at. c.loop-name.invariant.free n (subst (In n) (sym all) at)
