-- An edit that adds or erases a premise that says of two facts that they contradict each other,
-- which they do all the same, changes nothing of what beliefs read.
use Rattle.std.proofs.Common.{◌≡◌, ◌∙◌, ℕ, Bool, true, false, not, ◌&&◌, ◌||◌, cond, List, [], ◌∷◌, refl, sym, ap, inl, inr}
use Rattle.std.proofs.lemmas.Bool.{or_cases}
use Rattle.std.specs.Prelude.{Option, Some, None, filter}
use Rattle.std.specs.List.{list_any}
use Rattle.std.specs.Option.{option_map_or}
use Rattle.std.specs.Cmp.{both_ways}
use Rattle.std.specs.Cmp.Lexicographic.{bytes_decides}
use Rattle.tmm_model.specs.declared.premise.Edit.{Edit}
use Rattle.tmm_model.specs.declared.premise.Edit.TheVariants.{Add, Erase, Horizon, Upgrade}
use Rattle.tmm_model.specs.declared.premise.Premise.{Premise}
use Rattle.tmm_model.specs.declared.premise.Premise.TheVariants.{Class, Kind, Point, Event, Token, Span, Dist, Rule, Protect, Against}
use Rattle.tmm_model.specs.Beliefs.{class_of, says_against, are_rivals}
use Rattle.tmm_model.specs.Edits.{next_list}
use Rattle.tmm_model.specs.Points.{same_name}
use Rattle.tmm_model.specs.Standing.{Standing, name_of, premise_in}
use Rattle.list_theory.specs.WellNamed.{IsWellNamed}
use Rattle.list_theory.proofs.Elements.{In, both}
use Rattle.belief_theory.specs.Touched.{contradict}
use Rattle.revisions.specs.Alike.{SayAlike, is_read, is_told, told_of, rivalry_in, rivalry_of, IdleEditsSayAlike}
use Rattle.list_theory.proofs.Pointwise.{any_same}
use Rattle.revisions.proofs.ReadPremises.{same_told, contradict_same}
use Rattle.revisions.proofs.UnreadEdits.{seen_push, seen_kept, told_reads, erased_is}

-- ---- facts contradict each other both ways

name_flipped : (f g : List ℕ) → same_name f g ≡ same_name g f
name_flipped f g =
    both_ways (same_name f g) (same_name g f) (λ e. (bytes_decides g f).1 (sym ((bytes_decides f g).0 e))) (λ e. (bytes_decides f g).1 (sym ((bytes_decides g f).0 e)))

or_flipped : (a b : Bool) → (a || b) ≡ (b || a)
or_flipped true true = refl
or_flipped true false = refl
or_flipped false true = refl
or_flipped false false = refl

says_flipped : (f g : List ℕ) (p : Premise) → says_against f g p ≡ says_against g f p
says_flipped f g (Against name one other) = or_flipped (same_name one f && same_name other g) (same_name one g && same_name other f)
says_flipped f g (Class name facts) = refl
says_flipped f g (Kind name) = refl
says_flipped f g (Point name) = refl
says_flipped f g (Event name kind) = refl
says_flipped f g (Token name fact) = refl
says_flipped f g (Span name fact) = refl
says_flipped f g (Dist name from to lo hi) = refl
says_flipped f g (Rule name trigger lo hi effect given unless_facts) = refl
says_flipped f g (Protect name fact from to) = refl

pub rivals_flipped : (s : Standing) (f g : List ℕ) → are_rivals s f g ≡ are_rivals s g f
rivals_flipped s f g = λ i. not (name_flipped f g i) && any_same (says_against f g) (says_against g f) s.premises (λ p at. says_flipped f g p) i

pub contradict_flipped : (s : Standing) (f g : List ℕ) → contradict s f g ≡ contradict s g f
contradict_flipped s f g = λ i. (name_flipped (class_of s f) (class_of s g) i && not (name_flipped f g i)) || rivals_flipped s f g i

-- ---- premises that are kept in sight

-- the premise is told, or says of f and g that they contradict each other
abbrev tells : List ℕ → List ℕ → Premise → Bool
tells f g p = is_told p || says_against f g p

tells_reads : (f g : List ℕ) (p : Premise) → tells f g p ≡ true → is_read p ≡ true
tells_reads f g (Against name one other) e = refl
tells_reads f g (Class name facts) e = refl
tells_reads f g (Kind name) e = refl
tells_reads f g (Point name) e = cc
tells_reads f g (Event name kind) e = refl
tells_reads f g (Token name fact) e = refl
tells_reads f g (Span name fact) e = refl
tells_reads f g (Dist name from to lo hi) e = cc
tells_reads f g (Rule name trigger lo hi effect given unless_facts) e = refl
tells_reads f g (Protect name fact from to) e = cc

parts_false : (a b : Bool) → (a || b) ≡ false → (a ≡ false) × (b ≡ false)
parts_false false false e = (refl, refl)
parts_false false true e = cc
parts_false true b e = cc

tells_told : (f g : List ℕ) (p : Premise) → tells f g p ≡ false → is_told p ≡ false
tells_told f g p e = (parts_false (is_told p) (says_against f g p) e).0

any_tells : (f g : List ℕ) (ps : List Premise) → list_any (says_against f g) ps ≡ list_any (says_against f g) (filter (tells f g) ps)
any_tells f g [] = refl
any_tells f g (p ∷ ps) = by (tells f g p) refl (any_tells f g ps)
  where
    by : (b : Bool) → tells f g p ≡ b → list_any (says_against f g) ps ≡ list_any (says_against f g) (filter (tells f g) ps)
        → (says_against f g p || list_any (says_against f g) ps) ≡ list_any (says_against f g) (cond b (p ∷ filter (tells f g) ps) (filter (tells f g) ps))
    by true e again = ap (λ b. says_against f g p || b) again
    by false e again = ap (λ b. b || list_any (says_against f g) ps) (parts_false (is_told p) (says_against f g p) e).1 ∙ again

-- ---- the premise that an edit adds or erases

-- an edit of a premise that says of these that they contradict each other
record IsOf (s : Standing) (edit : Edit) (one other : List ℕ) : Type 0 where
  horizon : s.horizon ≡ (next_list s edit).horizon
  told : told_of s.premises ≡ told_of (next_list s edit).premises
  rivals : (f g : List ℕ) → says_against f g (Against [] one other) ≡ false → are_rivals s f g ≡ are_rivals (next_list s edit) f g

found_rivalry : (o : Option Premise) (one other : List ℕ) → rivalry_in o ≡ Some (one, other) → (name : List ℕ) × (o ≡ Some (Against name one other))
found_rivalry None one other e = cc
found_rivalry (Some (Against name f g)) one other e =
    let pair : (f, g) ≡ (one, other) = cc in
    let first : f ≡ one = ap (λ (x : List ℕ × List ℕ). x.0) pair in
    let second : g ≡ other = ap (λ (x : List ℕ × List ℕ). x.1) pair in
    (name, λ i. Some (Against name (first i) (second i)))
found_rivalry (Some (Class name facts)) one other e = cc
found_rivalry (Some (Kind name)) one other e = cc
found_rivalry (Some (Point name)) one other e = cc
found_rivalry (Some (Event name kind)) one other e = cc
found_rivalry (Some (Token name fact)) one other e = cc
found_rivalry (Some (Span name fact)) one other e = cc
found_rivalry (Some (Dist name from to lo hi)) one other e = cc
found_rivalry (Some (Rule name trigger lo hi effect given unless_facts)) one other e = cc
found_rivalry (Some (Protect name fact from to)) one other e = cc

-- lists that keep in sight the same for two facts tell the same of them
rivals_kept : (s t : Standing) (f g : List ℕ) → filter (tells f g) s.premises ≡ filter (tells f g) t.premises → are_rivals s f g ≡ are_rivals t f g
rivals_kept s t f g same = ap (λ b. not (same_name f g) && b) (any_tells f g s.premises ∙ ap (list_any (says_against f g)) same ∙ sym (any_tells f g t.premises))

edit_of : (s : Standing) (edit : Edit) → IsWellNamed s.premises → (one other : List ℕ) → rivalry_of s.premises edit ≡ Some (one, other) → IsOf s edit one other
edit_of s (Add p) named one other e =
    let (name, is) = found_rivalry (Some p) one other e in
    let p_is : p ≡ Against name one other = cc in
    record {
      horizon = refl;
      told = sym (seen_push is_told told_reads (λ p e. e) s.premises p (ap is_told p_is));
      rivals = λ f g none. rivals_kept s (next_list s (Add p)) f g (sym (seen_push (tells f g) (tells_reads f g) (tells_told f g) s.premises p (ap (tells f g) p_is ∙ none)));
    }
edit_of s (Erase erased) named one other e =
    let (name, is) = found_rivalry (premise_in s.premises erased) one other e in
    let is_it : (p : Premise) → In p s.premises → same_name erased (name_of p) ≡ true → p ≡ Against name one other =
    λ p at same. (let both_are : Some p ≡ Some (Against name one other) = sym (erased_is s.premises named erased p at same) ∙ is in cc) in
    record {
      horizon = refl;
      told = sym (seen_kept is_told told_reads (λ p e. e) erased [] [] s.premises named (λ w at. absurd at) (λ p at same. ap is_told (is_it p at same)));
      rivals = λ f g none. rivals_kept s (next_list s (Erase erased)) f g
          (sym (seen_kept (tells f g) (tells_reads f g) (tells_told f g) erased [] [] s.premises named (λ w at. absurd at) (λ p at same. ap (tells f g) (is_it p at same) ∙ none)));
    }
edit_of s (Horizon n) named one other e = cc
edit_of s Upgrade named one other e = cc

-- facts that contradict each other both before and after, and all others where no premise came or
-- went that speaks of them
pub idle_edit : IdleEditsSayAlike
idle_edit s edit named named_then e = by (rivalry_of s.premises edit) refl e
  where
    by : (o : Option (List ℕ × List ℕ)) → rivalry_of s.premises edit ≡ o
        → option_map_or (λ pair. contradict s pair.0 pair.1 && contradict (next_list s edit) pair.0 pair.1) o false ≡ true → SayAlike s (next_list s edit)
    by None is h = cc
    by (Some (one, other)) is h =
        let of = edit_of s edit named one other is in
        let (before, after) = both (contradict s one other) (contradict (next_list s edit) one other) h in
        same_told s (next_list s edit) named named_then of.told of.horizon (λ f g. same of before after f g (says_against f g (Against [] one other)) refl)
      where
        same : IsOf s edit one other → contradict s one other ≡ true → contradict (next_list s edit) one other ≡ true → (f g : List ℕ) → (b : Bool) → says_against f g (Against [] one other) ≡ b
            → contradict s f g ≡ contradict (next_list s edit) f g
        same of before after f g false none = contradict_same s (next_list s edit) named named_then of.told f g (of.rivals f g none)
        same of before after f g true says = elim (or_cases (same_name one f && same_name other g) (same_name one g && same_name other f) says) [
          | inl straight ↦
              let (at_f, at_g) = both (same_name one f) (same_name other g) straight in
              let is_f = (bytes_decides one f).0 at_f in
              let is_g = (bytes_decides other g).0 at_g in
              (λ i. contradict s (sym is_f i) (sym is_g i)) ∙ before ∙ sym after ∙ (λ i. contradict (next_list s edit) (is_f i) (is_g i))
          | inr turned ↦
              let (at_g, at_f) = both (same_name one g) (same_name other f) turned in
              let is_g = (bytes_decides one g).0 at_g in
              let is_f = (bytes_decides other f).0 at_f in
              contradict_flipped s f g
              ∙ (λ i. contradict s (sym is_g i) (sym is_f i)) ∙ before ∙ sym after ∙ (λ i. contradict (next_list s edit) (is_g i) (is_f i))
              ∙ contradict_flipped (next_list s edit) g f
        ]
