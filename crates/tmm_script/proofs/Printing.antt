-- Words written one after the other.
use Rattle.std.proofs.Common.{◌≡◌, ℕ, suc, ◌+◌, ◌<◌, List, [], ◌∷◌, ◌++◌, length, get_or, drop, map, Result, Ok, Err, OnErr, refl, sym, ap, ◌∙◌, append_assoc, add-one}
use Rattle.std.proofs.lemmas.List.{append-nil, drop-map}
use Rattle.std.proofs.Math.Seq.{drop-cons}
use Rattle.tmm_model.specs.declared.premise.Premise.{Premise}
use Rattle.tmm_model.specs.declared.premise.Premise.TheVariants.{Class, Kind, Point, Event, Token, Span, Dist, Rule, Protect, Against}
use Rattle.std.specs.Prelude.{codes}
use Rattle.tmm_model.specs.Points.{point_word}
use Rattle.tmm_model.specs.Lines.{number_word, bound_word, facts_words, behind_spaces, shown, shown_text}
use Rattle.tmm_script.specs.Printed.{first_word, head_words, tail_words, AppendsFront}

-- the first i words were appended
pub record Wrote (old out : List ℕ) (ws : List (List ℕ)) (i : ℕ) : Type 0 where
  pub front : List ℕ
  pub whole : behind_spaces ws ≡ front ++ behind_spaces (drop i ws)
  pub appended : out ≡ old ++ front

module _ (old out new : List ℕ) (ws : List (List ℕ)) (i : ℕ) (w : List ℕ) (h : Wrote old out ws i) (at : drop i ws ≡ w ∷ drop (i + 1) ws) where
  next : behind_spaces ws ≡ h.front ++ (32 ∷ w ++ behind_spaces (drop (i + 1) ws))
  next = h.whole ∙ ap (λ (t : List (List ℕ)). h.front ++ behind_spaces t) at

  pub wrote_more : new ≡ out ++ 32 ∷ w → Wrote old new ws (i + 1)
  wrote_more e = record {
    front = h.front ++ (32 ∷ w);
    whole = next ∙ sym (append_assoc h.front (32 ∷ w) (behind_spaces (drop (i + 1) ws)));
    appended = e ∙ ap (λ (t : List ℕ). t ++ (32 ∷ w)) h.appended ∙ append_assoc old h.front (32 ∷ w);
  }

  pub wrote_front : AppendsFront out new (32 ∷ w) → AppendsFront old new (behind_spaces ws)
  wrote_front f = record {
    front = h.front ++ f.front;
    rest = f.rest ++ behind_spaces (drop (i + 1) ws);
    parts = next ∙ ap (λ (t : List ℕ). h.front ++ (t ++ behind_spaces (drop (i + 1) ws))) f.parts ∙ simp append_assoc;
    appended = f.appended ∙ ap (λ (t : List ℕ). t ++ f.front) h.appended ∙ append_assoc old h.front f.front;
  }

item : {A : Type 0} (xs : List A) (i : ℕ) (x : A) → i < length xs → x ≡ get_or xs i x → drop i xs ≡ x ∷ drop (i + 1) xs
item xs i x lt e = rw add-one (drop-cons xs i x lt ∙ ap (λ t. t ∷ drop (suc i) xs) (sym e))

-- an element of a list, and its word in the list of words
pub word_at : {A : Type 0} (f : A → List ℕ) (xs : List A) (i : ℕ) (x : A) → i < length xs → x ≡ get_or xs i x → drop i (map f xs) ≡ f x ∷ drop (i + 1) (map f xs)
word_at f xs i x lt e = drop-map f i xs ∙ ap (map f) (item xs i x lt e) ∙ ap (λ (t : List (List ℕ)). f x ∷ t) (sym (drop-map f (i + 1) xs))

pub item_at : (xs : List (List ℕ)) (i : ℕ) (x : List ℕ) → i < length xs → x ≡ get_or xs i x → drop i xs ≡ x ∷ drop (i + 1) xs
item_at = item

pub on_err : {A E : Type 0} (r : Result A E) {P : Type 0} → P → OnErr r P
on_err (Ok x) p = tt
on_err (Err e) p = p

pub behind-append : (ws vs : List (List ℕ)) → behind_spaces (ws ++ vs) ≡ behind_spaces ws ++ behind_spaces vs
behind-append [] vs = refl
behind-append (w ∷ ws) vs = ap (λ (t : List ℕ). 32 ∷ w ++ t) (behind-append ws vs) ∙ sym (append_assoc (32 ∷ w) (behind_spaces ws) (behind_spaces vs))

in_parts : (k : List ℕ) (ws vs : List (List ℕ)) → k ++ behind_spaces (ws ++ vs) ≡ k ++ (behind_spaces ws ++ behind_spaces vs)
in_parts k ws vs = ap (λ (t : List ℕ). k ++ t) (behind-append ws vs)

whole : (k : List ℕ) (ws : List (List ℕ)) → k ++ behind_spaces ws ≡ k ++ (behind_spaces ws ++ [])
whole k ws = ap (λ (t : List ℕ). k ++ t) (sym (append-nil (behind_spaces ws)))

-- the text of a premise in three parts
shown_parts : (p : Premise) → shown_text p ≡ first_word (shown p) ++ (behind_spaces (head_words p) ++ behind_spaces (tail_words p))
shown_parts (Class n fs) = in_parts (codes "class") (n ∷ []) fs.items
shown_parts (Kind n) = whole (codes "kind") (n ∷ [])
shown_parts (Point n) = whole (codes "point") (n ∷ [])
shown_parts (Event n k) = whole (codes "event") (n ∷ k ∷ [])
shown_parts (Token n k) = whole (codes "token") (n ∷ k ∷ [])
shown_parts (Span n k) = whole (codes "span") (n ∷ k ∷ [])
shown_parts (Dist n p q lo hi) = whole (codes "dist") (n ∷ point_word p ∷ point_word q ∷ bound_word lo ∷ bound_word hi ∷ [])
shown_parts (Rule n t lo hi x given unless_facts) = in_parts (codes "rule") (n ∷ t ∷ number_word lo ∷ bound_word hi ∷ x ∷ []) (facts_words (codes "if") given.items ++ facts_words (codes "unless") unless_facts.items)
shown_parts (Protect n f p q) = whole (codes "protect") (n ∷ f ∷ point_word p ∷ point_word q ∷ [])
shown_parts (Against n f g) = whole (codes "against") (n ∷ f ∷ g ∷ [])

-- text that was appended, and text behind it of which a front was
pub front_behind : (old mid new x y : List ℕ) → mid ≡ old ++ x → AppendsFront mid new y → AppendsFront old new (x ++ y)
front_behind old mid new x y e f = record {
  front = x ++ f.front;
  rest = f.rest;
  parts = ap (λ (t : List ℕ). x ++ t) f.parts ∙ sym (append_assoc x f.front f.rest);
  appended = f.appended ∙ ap (λ (t : List ℕ). t ++ f.front) e ∙ append_assoc old x f.front;
}

pub front_before : (old new x y : List ℕ) → AppendsFront old new x → AppendsFront old new (x ++ y)
front_before old new x y f = record {
  front = f.front;
  rest = f.rest ++ y;
  parts = ap (λ (t : List ℕ). t ++ y) f.parts ∙ append_assoc f.front f.rest y;
  appended = f.appended;
}

-- two lists of words, one written behind the other
module _ (old new : List ℕ) (ws vs : List (List ℕ)) where
  pub wrote_both : (mid : List ℕ) → mid ≡ old ++ behind_spaces ws → new ≡ mid ++ behind_spaces vs → new ≡ old ++ behind_spaces (ws ++ vs)
  wrote_both mid e f =
      f ∙ ap (λ (t : List ℕ). t ++ behind_spaces vs) e ∙ append_assoc old (behind_spaces ws) (behind_spaces vs) ∙ ap (λ (t : List ℕ). old ++ t) (sym (behind-append ws vs))

  pub front_of_first : AppendsFront old new (behind_spaces ws) → AppendsFront old new (behind_spaces (ws ++ vs))
  front_of_first f = rw (behind-append ws vs) (front_before old new (behind_spaces ws) (behind_spaces vs) f)

  pub front_of_second : (mid : List ℕ) → mid ≡ old ++ behind_spaces ws → AppendsFront mid new (behind_spaces vs) → AppendsFront old new (behind_spaces (ws ++ vs))
  front_of_second mid e f = rw (behind-append ws vs) (front_behind old mid new (behind_spaces ws) (behind_spaces vs) e f)

-- the same of the parts of a premise's text
module _ (p : Premise) (old mid k : List ℕ) (heads : List (List ℕ)) (key : k ≡ first_word (shown p)) (is : heads ≡ head_words p) (begun : mid ≡ old ++ k) where
  text : shown_text p ≡ k ++ (behind_spaces heads ++ behind_spaces (tail_words p))
  text = rw (key, is) (shown_parts p)

  pub front_of_fields : (new : List ℕ) → AppendsFront mid new (behind_spaces heads) → AppendsFront old new (shown_text p)
  front_of_fields new f = rw text (front_behind old mid new k (behind_spaces heads ++ behind_spaces (tail_words p)) begun (front_before mid new (behind_spaces heads) (behind_spaces (tail_words p)) f))

  pub front_of_facts : (more new : List ℕ) → more ≡ mid ++ behind_spaces heads → AppendsFront more new (behind_spaces (tail_words p)) → AppendsFront old new (shown_text p)
  front_of_facts more new e f = rw text (front_behind old mid new k (behind_spaces heads ++ behind_spaces (tail_words p)) begun (front_behind mid more new (behind_spaces heads) (behind_spaces (tail_words p)) e f))
