-- The world of a stack that grows.
use Rattle.std.proofs.Common.{◌≡◌, ℕ, ◌<◌, ◌++◌, ◌∷◌, [], List, Bool, false, suc, Option, Some, None, map, reverse, length, All, sym, ap, ◌∙◌, length-append, subst, arith}
use Rattle.std.specs.Prelude.{nat_lt}
use Rattle.std.proofs.lemmas.Bool.{lt-ltb, lt-leb}
use Rattle.std.proofs.lemmas.List.{reverse-append, map-append, length-reverse, length-map}
use Rattle.std.proofs.lemmas.List.Elements.{All-push}
use Rattle.tmm_model.specs.Modes.{where_true}
use Rattle.tmm_model.specs.Standing.{Standing}
use Rattle.suppose.specs.declared.stack.Stack.{Stack}
use Rattle.suppose.specs.Worlds.{World, supposed}
use Rattle.suppose.specs.Stacks.{world_of, IsSettled}

-- a world by its parts
abbrev record_of : Standing → List Standing → World
record_of top below = record { top = top; below = below }

-- a world that a line leaves
abbrev a_world : World → Option World
a_world w = Some w

-- where there is room
supposed-room : (w : World) → length w.below < 8 → supposed w ≡ Some (record { top = w.top; below = w.top ∷ w.below })
supposed-room w room = ap (λ (b : Bool). where_true b (record { top = w.top; below = w.top ∷ w.below })) (lt-ltb (length w.below) 8 room)

module _ {M : Type 0} (list : M → Standing) (s : Stack M) where
  depth_is : length (world_of list s).below ≡ length s.below.items
  depth_is = length-reverse (map list s.below.items) ∙ length-map s.below.items list

  pub supposed-full : length s.below.items ≡ 8 → supposed (world_of list s) ≡ None
  supposed-full full =
      let none : nat_lt (length (world_of list s).below) 8 ≡ false = lt-leb (suc (length (world_of list s).below)) 8 (omega (arith, depth_is, full)) in
      ap (λ (b : Bool). where_true b (record { top = list s.top; below = list s.top ∷ (world_of list s).below })) none

  pub supposed-some : length s.below.items < 8 → supposed (world_of list s) ≡ Some (record { top = list s.top; below = list s.top ∷ reverse (map list s.below.items) })
  supposed-some room = supposed-room (world_of list s) (subst (λ (n : ℕ). n < 8) (sym depth_is) room)

  pub supposed-copy : length s.below.items < 8 → (t : Stack M) (copy : M) → t.top ≡ s.top → t.below.items ≡ s.below.items ++ copy ∷ [] → list copy ≡ list s.top
      → supposed (world_of list s) ≡ Some (world_of list t)
  supposed-copy room t copy top below same =
      let grown : reverse (map list t.below.items) ≡ list s.top ∷ reverse (map list s.below.items) =
      ap (λ (ms : List M). reverse (map list ms)) below
      ∙ ap (λ (ls : List Standing). reverse ls) (map-append list s.below.items (copy ∷ []))
      ∙ reverse-append (map list s.below.items) (list copy ∷ [])
      ∙ ap (λ (l : Standing). l ∷ reverse (map list s.below.items)) same in
      supposed-some room
      ∙ ap (λ (ls : List Standing). a_world (record { top = list s.top; below = ls })) (sym grown)
      ∙ ap (λ (m : M). a_world (record { top = list m; below = reverse (map list t.below.items) })) (sym top)

  -- what is settled goes on with a copy below its top
  pub settled-copy : (pending : M → Option Standing) → IsSettled pending s → length s.below.items < 8 → (t : Stack M) (copy : M) → t.top ≡ s.top → t.below.items ≡ s.below.items ++ copy ∷ [] → pending copy ≡ None
      → IsSettled pending t
  settled-copy pending settled room t copy top below idle = record {
    few = omega (arith, ap (λ (ms : List M). length ms) below, length-append s.below.items (copy ∷ []));
    below = subst (λ (ms : List M). All (λ m. pending m ≡ None) ms) (sym below) (All-push (λ m. pending m ≡ None) s.below.items copy settled.below idle);
    top = ap pending top ∙ settled.top;
  }

  -- a stack as it was
  pub same_world : (t : Stack M) → t.top ≡ s.top → t.below.items ≡ s.below.items → world_of list t ≡ world_of list s
  same_world t top below =
      ap (λ (ms : List M). record_of (list t.top) (reverse (map list ms))) below ∙ ap (λ (m : M). record_of (list m) (reverse (map list s.below.items))) top
