-- One list set among those under names.
use Rattle.std.proofs.Common.{◌≡◌, ◌∙◌, ℕ, Bool, true, false, cond, List, [], ◌∷◌, ◌++◌, refl, sym, ap, Vec, Global}
use Rattle.std.specs.Prelude.{Option, Some}
use Rattle.std.specs.Option.{option_map_or}
use Rattle.std.specs.Map.{lookup}
use Rattle.std.specs.Cmp.Lexicographic.{nat_list_eq_equiv}
use Rattle.tmm_model.specs.Points.{same_name}
use Rattle.walk_theory.proofs.Points.{names_differ, same_name-is}
use Rattle.name_lists.specs.Lists.{list_of, Appends}
use Rattle.name_lists.specs.declared.NameLists.{NameLists}

over_cond : {V E : Type 0} (f : V → List E) (b : Bool) (v : V) (o : Option V) → option_map_or f (cond b (Some v) o) [] ≡ cond b (f v) (option_map_or f o [])
over_cond f true v o = refl
over_cond f false v o = refl

module _
    {T : Type 0}
    (old new : NameLists T)
    (name : List ℕ)
    (list : Vec T Global)
    (set : (q : List ℕ) → lookup (same_name q) new.lists.entries ≡ cond (same_name name q) (Some list) (lookup (same_name q) old.lists.entries))
  where
    -- the list is the one of the name, and all else stays
    lists_are : (q : List ℕ) → list_of new q ≡ cond (same_name name q) list.items (list_of old q)
    lists_are q = ap (λ o. option_map_or (λ v. v.items) o []) (set q) ∙ over_cond (λ v. v.items) (same_name name q) list (lookup (same_name q) old.lists.entries)

    -- where it is the one that was there with the element behind
    pub appends : (element : T) → list.items ≡ list_of old name ++ element ∷ [] → Appends (list_of old) (list_of new) name element
    appends element is = record {
      own = lists_are name ∙ ap (λ b. cond b list.items (list_of old name)) (nat_list_eq_equiv.refl name) ∙ is;
      others = λ other apart. lists_are other ∙ ap (λ b. cond b list.items (list_of old other)) (names_differ name other (λ same. apart (sym same)));
    }

    -- where it is the one that was there
    pub unchanged : list.items ≡ list_of old name → (other : List ℕ) → list_of new other ≡ list_of old other
    unchanged is other = lists_are other ∙ by (same_name name other) refl
      where
        by : (b : Bool) → same_name name other ≡ b → cond b list.items (list_of old other) ≡ list_of old other
        by true same = is ∙ ap (list_of old) (same_name-is name other same)
        by false same = refl
