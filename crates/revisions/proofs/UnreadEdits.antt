-- An edit that adds or erases a premise that is not kept in sight leaves those that are; so it
-- leaves those that beliefs read, where beliefs do not read it.
use Rattle.std.proofs.Common.{◌≡◌, ◌∙◌, ℕ, Bool, true, false, not, cond, List, [], ◌∷◌, ◌++◌, refl, sym, ap, subst, inl, inr}
use Rattle.std.proofs.lemmas.Bool.{not-true}
use Rattle.std.specs.Prelude.{Some, filter}
use Rattle.std.specs.Option.{option_map_or}
use Rattle.std.specs.Cmp.Lexicographic.{bytes_decides}
use Rattle.tmm_model.specs.declared.premise.Edit.{Edit}
use Rattle.tmm_model.specs.declared.premise.Edit.TheVariants.{Add, Erase, Horizon, Upgrade}
use Rattle.tmm_model.specs.declared.premise.Premise.{Premise}
use Rattle.tmm_model.specs.declared.premise.Premise.TheVariants.{Class, Kind, Point, Event, Token, Span, Dist, Rule, Protect, Against}
use Rattle.tmm_model.specs.Edits.{next_list}
use Rattle.tmm_model.specs.Erasure.{falls, kept_after}
use Rattle.tmm_model.specs.Points.{same_name}
use Rattle.tmm_model.specs.Sorts.{Sort, a_class, a_fact, a_kind, a_point, an_event, a_token, a_span, a_dist, a_rule, a_protection, a_rivalry, is_fact, is_kind, is_effect, declarations_of, declared_by, fact_use}
use Rattle.tmm_model.specs.Standing.{Standing, name_of, premise_in}
use Rattle.list_theory.specs.WellNamed.{Follows, AllFollow, IsWellNamed}
use Rattle.list_theory.proofs.Elements.{In, In-map}
use Rattle.list_theory.proofs.Erasure.{kept_after-falls, kept_after-stays}
use Rattle.list_theory.proofs.KnownNames.{found}
use Rattle.revisions.specs.Alike.{SayAlike, is_read, read_of, is_told, is_unread}
use Rattle.revisions.proofs.Unasked.{RefusesEach, AreDeclared, still_declared, more_declared, declares_alone, falls_alone}
use Rattle.revisions.proofs.ReadPremises.{same_read}

-- ---- what mentions a premise that is not told

-- what such a premise is declared as
abbrev is_plain : Sort → Bool
is_plain a_point = true
is_plain a_dist = true
is_plain a_protection = true
is_plain a_rivalry = true
is_plain _ = false

-- so it is no fact and no kind
plain_is : (sort : Sort) → is_plain sort ≡ true → (is_fact sort ≡ false) × (is_kind sort ≡ false) × (is_effect sort ≡ false)
plain_is a_point e = (refl, refl, refl)
plain_is a_dist e = (refl, refl, refl)
plain_is a_protection e = (refl, refl, refl)
plain_is a_rivalry e = (refl, refl, refl)
plain_is a_class e = cc
plain_is a_fact e = cc
plain_is a_kind e = cc
plain_is an_event e = cc
plain_is a_token e = cc
plain_is a_span e = cc
plain_is a_rule e = cc

abbrev IsPlain : Sort → Type 0
IsPlain sort = is_plain sort ≡ true

-- what beliefs read asks for something else
asks_other : (p : Premise) → is_read p ≡ true → RefusesEach IsPlain p
asks_other (Class name facts) e u at = absurd at
asks_other (Kind name) e u at = absurd at
asks_other (Point name) e u at = cc
asks_other (Dist name from to lo hi) e u at = cc
asks_other (Protect name fact from to) e u at = cc
asks_other (Event name kind) e u (inl is) = record { word = kind; wanted = is_kind; is = is; refuses = λ sort e. (plain_is sort e).1 }
asks_other (Event name kind) e u (inr at) = absurd at
asks_other (Token name fact) e u (inl is) = record { word = fact; wanted = is_fact; is = is; refuses = λ sort e. (plain_is sort e).0 }
asks_other (Token name fact) e u (inr at) = absurd at
asks_other (Span name fact) e u (inl is) = record { word = fact; wanted = is_fact; is = is; refuses = λ sort e. (plain_is sort e).0 }
asks_other (Span name fact) e u (inr at) = absurd at
asks_other (Against name one other) e u (inl is) = record { word = one; wanted = is_fact; is = is; refuses = λ sort e. (plain_is sort e).0 }
asks_other (Against name one other) e u (inr (inl is)) = record { word = other; wanted = is_fact; is = is; refuses = λ sort e. (plain_is sort e).0 }
asks_other (Against name one other) e u (inr (inr at)) = absurd at
asks_other (Rule name trigger lo hi effect given unless_facts) e u (inl is) = record { word = trigger; wanted = is_kind; is = is; refuses = λ sort e. (plain_is sort e).1 }
asks_other (Rule name trigger lo hi effect given unless_facts) e u (inr (inl is)) = record { word = effect; wanted = is_effect; is = is; refuses = λ sort e. (plain_is sort e).2 }
asks_other (Rule name trigger lo hi effect given unless_facts) e u (inr (inr at)) =
    let (fact, _, is) = In-map fact_use (given.items ++ unless_facts.items) u at in
    record { word = fact; wanted = is_fact; is = is; refuses = λ sort e. (plain_is sort e).0 }

-- the name that a premise declares that is not told
declares_plain : (earlier : List Premise) (p : Premise) → is_told p ≡ false → Follows earlier p → AreDeclared IsPlain (earlier ++ p ∷ []) (declared_by p)
declares_plain earlier p e follows = by p e refl
  where
    by : (q : Premise) → is_told q ≡ false → p ≡ q → AreDeclared IsPlain (earlier ++ p ∷ []) (declared_by p)
    by (Point name) e is = declares_alone IsPlain earlier p follows name a_point (ap declarations_of is) (ap name_of is) refl
    by (Dist name from to lo hi) e is = declares_alone IsPlain earlier p follows name a_dist (ap declarations_of is) (ap name_of is) refl
    by (Protect name fact from to) e is = declares_alone IsPlain earlier p follows name a_protection (ap declarations_of is) (ap name_of is) refl
    by (Against name one other) e is = declares_alone IsPlain earlier p follows name a_rivalry (ap declarations_of is) (ap name_of is) refl
    by (Class name facts) e is = cc
    by (Kind name) e is = cc
    by (Event name kind) e is = cc
    by (Token name fact) e is = cc
    by (Span name fact) e is = cc
    by (Rule name trigger lo hi effect given unless_facts) e is = cc

-- ---- an erasure

-- Premises are kept in sight: all that are told are, and none that beliefs do not read.
module _ (seen : Premise → Bool) (reads : (p : Premise) → seen p ≡ true → is_read p ≡ true) (tells : (p : Premise) → seen p ≡ false → is_told p ≡ false) where
  -- those in their order
  abbrev pub seen_of : List Premise → List Premise
  seen_of premises = filter seen premises

  pub seen_push : (ps : List Premise) (p : Premise) → seen p ≡ false → seen_of (ps ++ p ∷ []) ≡ seen_of ps
  seen_push [] p e = ap (λ b. cond b (p ∷ []) []) e
  seen_push (q ∷ ps) p e = ap (λ l. cond (seen q) (q ∷ l) l) (seen_push ps p e)

  seen_past : (p : Premise) (ps : List Premise) → seen p ≡ false → seen_of (p ∷ ps) ≡ seen_of ps
  seen_past p ps e = ap (λ b. cond b (p ∷ seen_of ps) (seen_of ps)) e

  falls_unseen : (erased : List ℕ) (earlier : List Premise) (gone : List (List ℕ)) → AreDeclared IsPlain earlier gone → (p : Premise) → Follows earlier p
      → (same_name erased (name_of p) ≡ true → seen p ≡ false) → falls erased gone p ≡ true → seen p ≡ false
  falls_unseen erased earlier gone plain p follows own e = by (seen p) refl
    where
      by : (b : Bool) → seen p ≡ b → seen p ≡ false
      by false h = h
      by true h = own (falls_alone IsPlain erased earlier gone plain p follows (asks_other p (reads p h)) e)

  pub seen_kept : (erased : List ℕ) (earlier : List Premise) (gone : List (List ℕ)) (ps : List Premise) → AllFollow earlier ps → AreDeclared IsPlain earlier gone
      → ((p : Premise) → In p ps → same_name erased (name_of p) ≡ true → seen p ≡ false) → seen_of (kept_after erased gone ps) ≡ seen_of ps
  seen_kept erased earlier gone [] follow plain own = refl
  seen_kept erased earlier gone (p ∷ ps) follow plain own =
      by (seen_kept erased (earlier ++ p ∷ []) (declared_by p ++ gone) ps follow.1) (seen_kept erased (earlier ++ p ∷ []) gone ps follow.1) (falls erased gone p) refl
    where
      rest : (q : Premise) → In q ps → same_name erased (name_of q) ≡ true → seen q ≡ false
      rest q at = own q (inr at)

      by : (AreDeclared IsPlain (earlier ++ p ∷ []) (declared_by p ++ gone) → ((q : Premise) → In q ps → same_name erased (name_of q) ≡ true → seen q ≡ false) → seen_of (kept_after erased (declared_by p ++ gone) ps) ≡ seen_of ps)
          → (AreDeclared IsPlain (earlier ++ p ∷ []) gone → ((q : Premise) → In q ps → same_name erased (name_of q) ≡ true → seen q ≡ false) → seen_of (kept_after erased gone ps) ≡ seen_of ps)
          → (b : Bool) → falls erased gone p ≡ b → seen_of (kept_after erased gone (p ∷ ps)) ≡ seen_of (p ∷ ps)
      by one two true e =
          let unseen_p = falls_unseen erased earlier gone plain p follow.0 (own p (inl refl)) e in
          ap seen_of (kept_after-falls erased gone p ps e)
          ∙ one (more_declared IsPlain (earlier ++ p ∷ []) (declared_by p) gone (declares_plain earlier p (tells p unseen_p) follow.0) (still_declared IsPlain earlier gone p plain)) rest
          ∙ sym (seen_past p ps unseen_p)
      by one two false e = ap seen_of (kept_after-stays erased gone p ps e) ∙ ap (λ l. cond (seen p) (p ∷ l) l) (two (still_declared IsPlain earlier gone p plain) rest)

-- ---- an edit

-- what is told beliefs read
pub told_reads : (p : Premise) → is_told p ≡ true → is_read p ≡ true
told_reads (Class name facts) e = refl
told_reads (Kind name) e = refl
told_reads (Point name) e = cc
told_reads (Event name kind) e = refl
told_reads (Token name fact) e = refl
told_reads (Span name fact) e = refl
told_reads (Dist name from to lo hi) e = cc
told_reads (Rule name trigger lo hi effect given unless_facts) e = refl
told_reads (Protect name fact from to) e = cc
told_reads (Against name one other) e = cc

unread_untold : (p : Premise) → is_read p ≡ false → is_told p ≡ false
unread_untold p e = by (is_told p) refl
  where
    by : (b : Bool) → is_told p ≡ b → b ≡ false
    by false h = refl
    by true h = let g : is_read p ≡ true = told_reads p h in cc

-- the premise of the name is the one that is found
pub erased_is : (ps : List Premise) → IsWellNamed ps → (name : List ℕ) (p : Premise) → In p ps → same_name name (name_of p) ≡ true → premise_in ps name ≡ Some p
erased_is ps named name p at same = subst (λ n. premise_in ps n ≡ Some p) (sym ((bytes_decides name (name_of p)).0 same)) (found ps named p at)

edit_reads : (s : Standing) (edit : Edit) → IsWellNamed s.premises → is_unread s.premises edit ≡ true
    → (read_of s.premises ≡ read_of (next_list s edit).premises) × (s.horizon ≡ (next_list s edit).horizon)
edit_reads s (Add p) named e = (sym (seen_push is_read (λ p e. e) unread_untold s.premises p (not-true (is_read p) e)), refl)
edit_reads s (Erase name) named e = (sym (seen_kept is_read (λ p e. e) unread_untold name [] [] s.premises named (λ w at. absurd at) erased), refl)
  where
    erased : (p : Premise) → In p s.premises → same_name name (name_of p) ≡ true → is_read p ≡ false
    erased p at same = not-true (is_read p) (ap (λ o. option_map_or (λ q. not (is_read q)) o false) (sym (erased_is s.premises named name p at same)) ∙ e)
edit_reads s (Horizon n) named e = cc
edit_reads s Upgrade named e = (refl, refl)

pub unread_edit : (s : Standing) (edit : Edit) → IsWellNamed s.premises → IsWellNamed (next_list s edit).premises → is_unread s.premises edit ≡ true → SayAlike s (next_list s edit)
unread_edit s edit named named_then e = let same = edit_reads s edit named e in same_read s (next_list s edit) named named_then same.0 same.1
