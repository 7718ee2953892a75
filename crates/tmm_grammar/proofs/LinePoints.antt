-- The words for names, bounds, points and occurrences, and what they read as.
use Rattle.std.proofs.Common.{◌≡◌, ◌≢◌, ℕ, ◌-◌, ◌≤◌, ℤ, pos, negsuc, Bool, true, false, cond, List, [], ◌∷◌, ◌++◌, length, take, drop, Some, None, refl, sym, ap, subst, ◌∙◌, inl, inr, arith}
use Rattle.std.specs.Prelude.{decimal, option_map, ◌&&◌, nat_le, ◌==◌, codes, not}
use Rattle.std.specs.List.{list_all, list_any, onto_first}
use Rattle.std.proofs.lemmas.Bool.{and_parts, and_from, leb-true, le-leb, eqb-true, ne_eqb, cases_Bool, true≢false, false_from_ne_true, or_from, not-true, or_left, or_right, not_from_false, both_ways}
use Rattle.std.proofs.lemmas.Int.{ints}
use Rattle.std.proofs.lemmas.List.{append-nil, take_at, drop_at, take-append-drop, length-append}
use Rattle.std.proofs.lemmas.List.Folds.{list_all-append, list_any-append}
use Rattle.tmm_model.specs.declared.bound.Bound.{Bound}
use Rattle.tmm_model.specs.declared.bound.Bound.TheVariants.{Finite, Free}
use Rattle.tmm_model.specs.declared.point.PointName.{PointName}
use Rattle.tmm_model.specs.declared.point.PointName.TheVariants.{Start, Begin, End}
use Rattle.tmm_model.specs.declared.point.Occ.{Occ}
use Rattle.tmm_model.specs.declared.point.QueryPoint.{QueryPoint}
use Rattle.tmm_model.specs.declared.point.QueryPoint.TheVariants.{Declared, Derived}
use Rattle.tmm_model.specs.Names.{is_letter, is_name_byte, is_name}
use Rattle.tmm_model.specs.Points.{same_name, point_word, slashed, occ_word, query_word}
use Rattle.tmm_model.specs.Lines.{is_blank, IsName, AreNames, number_word, bound_word, IsBound, IsWellFormedPoint, IsWellFormedOcc}
use Rattle.tmm_grammar.specs.Reading.{name_of, digits_on, natural_of, number_of, bound_of, end_of, point_of, parts, parts_behind, bare, occ_from, occ_of, query_point_of, horizon_from, horizon_of}
use Rattle.tmm_grammar.proofs.LineReaders.{chosen, bind_some, map_some, passing_some, IsReader}
use Rattle.tmm_grammar.proofs.LineNumbers.{number_reader}
use Rattle.walk_theory.proofs.Points.{same_name-is, names_differ, names_apart}

-- ---- names

pub name_reader : IsReader (λ n. n) IsName name_of
name_reader = record {
  sound = λ w a e. let p = passing_some (is_name w) w a e in (subst IsName p.1 p.0, p.1);
  complete = λ a ok. rw ok refl;
}

-- every byte of a name is a letter, a digit, `_` or `-`
pub name_bytes : (w : List ℕ) → is_name w ≡ true → list_all is_name_byte w ≡ true
name_bytes [] h = refl
name_bytes (b ∷ bs) h =
    let p = and_parts (is_letter b && list_all is_name_byte bs) (nat_le (length bs) 23) h in
    let q = and_parts (is_letter b) (list_all is_name_byte bs) p.0 in
    and_from _ _ (or_left _ _ (or_left _ _ (or_left _ _ q.0))) q.1

-- ---- bounds

pub bound_of-sound : (w : List ℕ) (b : Bound) → bound_of w ≡ Some b → IsBound b × (w ≡ bound_word b)
unfolding bound_of
bound_of-sound w b e =
    elim (chosen (same_name w (codes "*")) (Some Free) (option_map Finite (number_of w)) (Some b) e) [
      | inl p ↦
          let k : Free ≡ b = cc in
          (subst IsBound k tt, same_name-is w (codes "*") p.0 ∙ ap bound_word k)
      | inr p ↦
          let q = map_some Finite (number_of w) b p.1 in
          let r = number_reader.sound w q.0 q.1 in
          (subst IsBound q.2 r.0, r.1 ∙ ap bound_word q.2)
    ]

no_star : (n : ℤ) → number_of (codes "*") ≡ Some n → ⊥
unfolding number_of natural_of digits_on
no_star n e = cc

pub bound_of-complete : (b : Bound) → IsBound b → bound_of (bound_word b) ≡ Some b
unfolding bound_of
bound_of-complete (Finite z) h =
    let k = number_reader.complete z h in
    let f : same_name (number_word z) (codes "*") ≡ false = names_differ _ _ (λ e. no_star z (ap number_of (sym e) ∙ k)) in
    rw (f, k) refl
bound_of-complete Free h = refl

pub bound_reader : IsReader bound_word IsBound bound_of
bound_reader = record { sound = bound_of-sound; complete = bound_of-complete }

-- ---- points

pub no_dot : (k : List ℕ) → is_name (k ++ codes ".end") ≡ false
no_dot k = false_from_ne_true _ (λ e.
    let p = name_bytes (k ++ codes ".end") e in
    let q = sym (list_all-append is_name_byte k (codes ".end")) ∙ p in
    true≢false (sym (and_parts (list_all is_name_byte k) false q).1))

end_of-sound : (w : List ℕ) (p : PointName) → end_of w ≡ Some p → IsWellFormedPoint p × (w ≡ point_word p)
end_of-sound w p e =
    elim (chosen (same_name (drop (length w - 4) w) (codes ".end")) (option_map End (name_of (take (length w - 4) w))) None (Some p) e) [
      | inl q ↦
          let r = map_some End (name_of (take (length w - 4) w)) p q.1 in
          let s = name_reader.sound (take (length w - 4) w) r.0 r.1 in
          (subst IsWellFormedPoint r.2 s.0, sym (take-append-drop (length w - 4) w) ∙ ap (λ (t : List ℕ). t ++ drop (length w - 4) w) s.1 ∙ ap (λ (t : List ℕ). r.0 ++ t) (same_name-is _ _ q.0) ∙ ap point_word r.2)
      | inr q ↦ absurd cc
    ]

end_of-complete : (k : List ℕ) → IsName k → end_of (k ++ codes ".end") ≡ Some (End k)
end_of-complete k h =
    let n : length (k ++ codes ".end") - 4 ≡ length k = omega (arith, length-append k (codes ".end")) in
    rw (n, take_at k (codes ".end") (length k) refl, drop_at k (codes ".end") (length k) refl, h) refl

pub point_of-sound : (w : List ℕ) (p : PointName) → point_of w ≡ Some p → IsWellFormedPoint p × (w ≡ point_word p)
unfolding point_of
point_of-sound w p e =
    elim (chosen (same_name w (codes "start")) (Some Start) (cond (is_name w) (Some (Begin w)) (end_of w)) (Some p) e) [
      | inl q ↦
          let k : Start ≡ p = cc in
          (subst IsWellFormedPoint k tt, same_name-is w (codes "start") q.0 ∙ ap point_word k)
      | inr q ↦
          elim (chosen (is_name w) (Some (Begin w)) (end_of w) (Some p) q.1) [
            | inl r ↦
                let k : Begin w ≡ p = cc in
                (subst IsWellFormedPoint k (r.0, names_apart w (codes "start") q.0), ap point_word k)
            | inr r ↦ end_of-sound w p r.1
          ]
    ]

pub point_of-complete : (p : PointName) → IsWellFormedPoint p → point_of (point_word p) ≡ Some p
unfolding point_of
point_of-complete Start h = refl
point_of-complete (Begin k) h = rw (names_differ k (codes "start") h.1, h.0) refl
point_of-complete (End k) h =
    let f : same_name (k ++ codes ".end") (codes "start") ≡ false = names_differ (k ++ codes ".end") (codes "start") (λ e. true≢false (sym (ap is_name e) ∙ no_dot k)) in
    rw (f, no_dot k) (end_of-complete k h)

pub point_reader : IsReader point_word IsWellFormedPoint point_of
point_reader = record { sound = point_of-sound; complete = point_of-complete }

-- ---- occurrences

-- the bytes are none, or begin with a `/`
abbrev pub at_slash : List ℕ → Bool
at_slash [] = true
at_slash (b ∷ _) = b == 47

-- a part up to a `/` or the end
pub parts-first : (a rest : List ℕ) → list_all (λ b. not (b == 47)) a ≡ true → at_slash rest ≡ true → parts (a ++ rest) ≡ a ∷ parts_behind rest
unfolding parts
parts-first [] [] plain stops = refl
parts-first [] (b ∷ rest) plain stops = rw stops refl
parts-first (b ∷ a) rest plain stops =
    let p = and_parts (not (b == 47)) (list_all (λ b. not (b == 47)) a) plain in
    rw (not-true (b == 47) p.0) (ap (onto_first b) (parts-first a rest p.1 stops))

-- parts are joined to the word
joined : List (List ℕ) → List ℕ
joined [] = []
joined (p ∷ ps) = p ++ slashed ps

joined-onto : (b : ℕ) (ps : List (List ℕ)) → joined (onto_first b ps) ≡ b ∷ joined ps
unfolding joined
joined-onto b [] = refl
joined-onto b (p ∷ ps) = refl

-- there is a first part
parts-some : (w : List ℕ) → (p : List ℕ) × (ps : List (List ℕ)) × (parts w ≡ p ∷ ps)
unfolding parts
parts-some [] = ([], [], refl)
parts-some (b ∷ w) =
    let q = parts-some w in
    elim (cases_Bool (b == 47)) [ inl t ↦ ([], parts w, rw t refl) | inr f ↦ (b ∷ q.0, q.1, rw f (ap (onto_first b) q.2)) ]

slashed-joined : (ps : List (List ℕ)) (p : List ℕ) (qs : List (List ℕ)) → ps ≡ p ∷ qs → slashed ps ≡ 47 ∷ joined ps
unfolding joined
slashed-joined ps p qs e = ap slashed e ∙ ap (λ (x : List (List ℕ)). 47 ∷ joined x) (sym e)

parts-joined : (w : List ℕ) → joined (parts w) ≡ w
unfolding parts joined
parts-joined [] = refl
parts-joined (b ∷ w) =
    let q = parts-some w in
    elim (cases_Bool (b == 47)) [
      | inl t ↦ rw t (slashed-joined (parts w) q.0 q.1 q.2 ∙ ap (λ (x : List ℕ). 47 ∷ x) (parts-joined w) ∙ ap (λ (x : ℕ). x ∷ w) (sym (eqb-true b 47 t)))
      | inr f ↦ rw f (joined-onto b (parts w) ∙ ap (λ (x : List ℕ). b ∷ x) (parts-joined w))
    ]

-- a word whose parts are these is their occurrence's
pub word-parts : (w root : List ℕ) (rules : List (List ℕ)) → parts w ≡ root ∷ rules → w ≡ root ++ slashed rules
unfolding joined
word-parts w root rules e = sym (parts-joined w) ∙ ap joined e

-- no byte of a name is a `/`, and none is a blank
name_byte_plain : (b : ℕ) → is_name_byte b ≡ true → (b ≡ 47 → ⊥) × (is_blank b ≡ false)
name_byte_plain b h =
    let off = λ (c : ℕ) (k : is_name_byte c ≡ false) (e : b ≡ c). both_ways (is_name_byte c) k (ap is_name_byte (sym e) ∙ h) in
    (off 47 refl, or_from _ _ (or_from _ _ (ne_eqb b 32 (off 32 refl)) (ne_eqb b 9 (off 9 refl))) (ne_eqb b 13 (off 13 refl)))

pub no_slash : (w : List ℕ) → list_all is_name_byte w ≡ true → list_all (λ b. not (b == 47)) w ≡ true
no_slash [] h = refl
no_slash (b ∷ w) h =
    let p = and_parts (is_name_byte b) (list_all is_name_byte w) h in
    and_from _ _ (not_from_false (b == 47) (ne_eqb b 47 (name_byte_plain b p.0).0)) (no_slash w p.1)

pub no_blank : (w : List ℕ) → list_all is_name_byte w ≡ true → list_all (λ b. not (is_blank b)) w ≡ true
no_blank [] h = refl
no_blank (b ∷ w) h =
    let p = and_parts (is_name_byte b) (list_all is_name_byte w) h in
    and_from _ _ (not_from_false (is_blank b) (name_byte_plain b p.0).1) (no_blank w p.1)

slashed-at : (rules : List (List ℕ)) → at_slash (slashed rules) ≡ true
slashed-at [] = refl
slashed-at (r ∷ rules) = refl

parts-slashed : (rules : List (List ℕ)) → AreNames rules → parts_behind (slashed rules) ≡ rules
parts-slashed [] h = refl
parts-slashed (r ∷ rules) h =
    let p = and_parts (is_name r) (list_all is_name rules) h in
    parts-first r (slashed rules) (no_slash r (name_bytes r p.0)) (slashed-at rules) ∙ ap (λ (x : List (List ℕ)). r ∷ x) (parts-slashed rules p.1)

-- the parts of an occurrence's word are its root and its rules
pub parts-occ : (root : List ℕ) (rules : List (List ℕ)) → IsName root → AreNames rules → parts (root ++ slashed rules) ≡ root ∷ rules
parts-occ root rules h k = parts-first root (slashed rules) (no_slash root (name_bytes root h)) (slashed-at rules) ∙ ap (λ (x : List (List ℕ)). root ∷ x) (parts-slashed rules k)

-- an occurrence whose list has no room
abbrev pub IsBareOcc : Occ → Type 0
IsBareOcc o = IsWellFormedOcc o × (o.rules.room ≡ 0)

occ_from-sound : (ps : List (List ℕ)) (o : Occ) → occ_from ps ≡ Some o → IsBareOcc o × (ps ≡ o.root ∷ o.rules.items)
occ_from-sound [] o e = absurd cc
occ_from-sound (root ∷ rules) o e =
    let p = passing_some (is_name root && list_all is_name rules) (bare root rules) o e in
    let q = and_parts (is_name root) (list_all is_name rules) p.0 in
    subst (λ (x : Occ). IsBareOcc x × (root ∷ rules ≡ x.root ∷ x.rules.items)) p.1 ((q, refl), refl)

pub occ_of-sound : (w : List ℕ) (o : Occ) → occ_of w ≡ Some o → IsBareOcc o × (w ≡ occ_word o)
unfolding occ_of
occ_of-sound w o e =
    let p = occ_from-sound (parts w) o e in
    (p.0, word-parts w o.root o.rules.items p.1)

pub occ_of-complete : (o : Occ) → IsBareOcc o → occ_of (occ_word o) ≡ Some o
unfolding occ_of
occ_of-complete o h =
    let k : bare o.root o.rules.items ≡ o = ap (λ (n : ℕ). record { root = o.root; rules = record { items = o.rules.items; room = n } }) (sym h.1) in
    ap occ_from (parts-occ o.root o.rules.items h.0.0 h.0.1) ∙ rw (h.0.0, h.0.1) (ap Some k)

pub occ_reader : IsReader occ_word IsBareOcc occ_of
occ_reader = record { sound = occ_of-sound; complete = occ_of-complete }

-- ---- points of queries

-- a point of a query whose list has no room
abbrev pub IsBarePoint : QueryPoint → Type 0
IsBarePoint (Declared p) = IsWellFormedPoint p
IsBarePoint (Derived o) = IsBareOcc o × (o.rules.items ≢ [])

any_slash : List ℕ → Bool
any_slash w = list_any (λ b. b == 47) w

any_no : (w : List ℕ) → list_all (λ b. not (b == 47)) w ≡ true → any_slash w ≡ false
unfolding any_slash
any_no [] h = refl
any_no (b ∷ w) h =
    let p = and_parts (not (b == 47)) (list_all (λ b. not (b == 47)) w) h in
    or_from _ _ (not-true (b == 47) p.0) (any_no w p.1)

name_no_slash : (k : List ℕ) → IsName k → any_slash k ≡ false
name_no_slash k h = any_no k (no_slash k (name_bytes k h))

point_no_slash : (p : PointName) → IsWellFormedPoint p → any_slash (point_word p) ≡ false
unfolding any_slash
point_no_slash Start h = refl
point_no_slash (Begin k) h = name_no_slash k h.0
point_no_slash (End k) h = list_any-append (λ b. b == 47) k (codes ".end") ∙ or_from _ _ (name_no_slash k h) refl

occ_slash : (root : List ℕ) (rules : List (List ℕ)) → rules ≢ [] → any_slash (root ++ slashed rules) ≡ true
unfolding any_slash
occ_slash root [] some = absurd (some refl)
occ_slash root (r ∷ rules) some = list_any-append (λ b. b == 47) root (slashed (r ∷ rules)) ∙ or_right _ _ refl

occ_rules : (o : Occ) (w : List ℕ) → IsName o.root → w ≡ occ_word o → any_slash w ≡ true → o.rules.items ≢ []
occ_rules o w h e t none =
    let k : w ≡ o.root = e ∙ ap (λ (x : List (List ℕ)). o.root ++ slashed x) none ∙ append-nil o.root in
    both_ways (any_slash w) (ap any_slash k ∙ name_no_slash o.root h) t

pub query_point_of-sound : (w : List ℕ) (p : QueryPoint) → query_point_of w ≡ Some p → IsBarePoint p × (w ≡ query_word p)
unfolding query_point_of any_slash
query_point_of-sound w p e =
    elim (chosen (list_any (λ b. b == 47) w) (option_map Derived (occ_of w)) (option_map Declared (point_of w)) (Some p) e) [
      | inl q ↦
          let r = map_some Derived (occ_of w) p q.1 in
          let s = occ_of-sound w r.0 r.1 in
          subst (λ (x : QueryPoint). IsBarePoint x × (w ≡ query_word x)) r.2 ((s.0, occ_rules r.0 w s.0.0.0 s.1 q.0), s.1)
      | inr q ↦
          let r = map_some Declared (point_of w) p q.1 in
          let s = point_of-sound w r.0 r.1 in
          subst (λ (x : QueryPoint). IsBarePoint x × (w ≡ query_word x)) r.2 s
    ]

pub query_point_of-complete : (p : QueryPoint) → IsBarePoint p → query_point_of (query_word p) ≡ Some p
unfolding query_point_of any_slash
query_point_of-complete (Declared p) h = rw (point_no_slash p h, point_of-complete p h) refl
query_point_of-complete (Derived o) h = rw (occ_slash o.root o.rules.items h.1, occ_of-complete o h.0) refl

pub query_point_reader : IsReader query_word IsBarePoint query_point_of
query_point_reader = record { sound = query_point_of-sound; complete = query_point_of-complete }

-- ---- horizons

horizon_some : (z : ℤ) (n : ℕ) → horizon_from z ≡ Some n → (n ≤ 100000) × (z ≡ pos n)
horizon_some (pos m) n e = let p = passing_some (nat_le m 100000) m n e in (subst (λ (k : ℕ). k ≤ 100000) p.1 (leb-true m 100000 p.0), ap pos p.1)
horizon_some (negsuc m) n e = absurd cc

pub horizon_of-sound : (w : List ℕ) (n : ℕ) → horizon_of w ≡ Some n → (n ≤ 100000) × (w ≡ decimal n)
unfolding horizon_of
horizon_of-sound w n e =
    let p = bind_some (number_of w) horizon_from n e in
    let q = horizon_some p.0 n p.2 in
    (q.0, (number_reader.sound w p.0 p.1).1 ∙ ap number_word q.1)

pub horizon_of-complete : (n : ℕ) → n ≤ 100000 → horizon_of (decimal n) ≡ Some n
unfolding horizon_of
horizon_of-complete n h = rw (number_reader.complete (pos n) (omega (arith, ints), omega (arith, ints)), le-leb n 100000 h) refl

pub horizon_reader : IsReader decimal (λ n. n ≤ 100000) horizon_of
horizon_reader = record { sound = horizon_of-sound; complete = horizon_of-complete }
