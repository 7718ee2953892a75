-- A door that is open from k on and shut from m on: which clips which, and what is answered.
use Rattle.std.proofs.Common.{◌≡◌, ◌++◌, [], ◌∷◌}
use Rattle.std.specs.Prelude.{codes, Some, None}
use Rattle.tmm_model.specs.Standing.{Standing}
use Rattle.tmm_model.specs.Maps.{built}
use Rattle.tmm_model.specs.Answers.{holds, fails, unordered, clipped, clip, ask, size}
use Rattle.tmm_model.specs.Moments.{Moment}
use Rattle.belief_theory.proofs.FarTables.{of_map}
use Rattle.tmm_examples.proofs.WorkedScripts.{within, apart_by, root, two_tokens}

abbrev k : Moment
k = root (codes "k")

abbrev m : Moment
m = root (codes "m")

-- dist d k m 5 5
abbrev later : Standing
later = within 1000 (two_tokens ++ apart_by (codes "d") (codes "k") (codes "m") 5 ∷ [])

believed : (built later).believed ≡ k ∷ m ∷ []
believed = of_map (λ t. t.believed) later

k_is_clipped : clip (built later) k ≡ Some m
k_is_clipped = of_map (λ t. clip t k) later

-- m clips k and is not clipped by it
m_is_not : clip (built later) m ≡ None
m_is_not = of_map (λ t. clip t m) later

open_at_first : ask (built later) (codes "open") k k ≡ holds k
open_at_first = of_map (λ t. ask t (codes "open") k k) later

not_open_to_the_end : ask (built later) (codes "open") k m ≡ fails ((k, clipped m) ∷ []) 0
not_open_to_the_end = of_map (λ t. ask t (codes "open") k m) later

shut_then : ask (built later) (codes "shut") m m ≡ holds m
shut_then = of_map (λ t. ask t (codes "shut") m m) later

size_of_two : size (built later) ≡ 2
size_of_two = of_map size later

-- ---- where nothing relates the two, neither clips the other, and they are not in order
abbrev unrelated : Standing
unrelated = within 1000 two_tokens

both_hold : (ask (built unrelated) (codes "open") k k ≡ holds k) × (ask (built unrelated) (codes "shut") m m ≡ holds m)
both_hold = (of_map (λ t. ask t (codes "open") k k) unrelated, of_map (λ t. ask t (codes "shut") m m) unrelated)

no_order : ask (built unrelated) (codes "open") k m ≡ unordered
no_order = of_map (λ t. ask t (codes "open") k m) unrelated

-- ---- a tie clips neither: dist d k m 0 0
abbrev tied : Standing
tied = within 1000 (two_tokens ++ apart_by (codes "d") (codes "k") (codes "m") 0 ∷ [])

neither_clips : (clip (built tied) k ≡ None) × (clip (built tied) m ≡ None)
neither_clips = (of_map (λ t. clip t k) tied, of_map (λ t. clip t m) tied)

all_hold : (ask (built tied) (codes "open") k m ≡ holds k) × (ask (built tied) (codes "shut") m m ≡ holds m)
all_hold = (of_map (λ t. ask t (codes "open") k m) tied, of_map (λ t. ask t (codes "shut") m m) tied)
