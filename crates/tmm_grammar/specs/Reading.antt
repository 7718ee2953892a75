-- The grammar of a script line as a function from words, which code follows word by word. In each
-- version it gives the values for which `Reads` holds, with no room in their lists.
use Rattle.std.specs.Prelude.{ℕ, zero, suc, ◌+◌, ◌-◌, ◌*◌, ℤ, pos, negsuc, int_le, Bool, true, false, cond, not, ◌&&◌, ◌==◌, nat_le, List, [], ◌∷◌, length, take, drop, Option, Some, None, option_map, codes}
use Rattle.std.specs.List.{list_all, list_any, slice_split}
use Rattle.std.specs.Option.{option_or}
use Rattle.tmm_model.specs.declared.limits.TheConstants.{GREATEST_NUMBER, LAST_HORIZON}
use Rattle.tmm_model.specs.declared.bound.Bound.{Bound}
use Rattle.tmm_model.specs.declared.bound.Bound.TheVariants.{Finite, Free}
use Rattle.tmm_model.specs.declared.point.PointName.{PointName}
use Rattle.tmm_model.specs.declared.point.PointName.TheVariants.{Start, Begin, End}
use Rattle.tmm_model.specs.declared.point.Occ.{Occ}
use Rattle.tmm_model.specs.declared.point.QueryPoint.{QueryPoint}
use Rattle.tmm_model.specs.declared.point.QueryPoint.TheVariants.{Declared, Derived}
use Rattle.tmm_model.specs.declared.premise.Premise.{Premise}
use Rattle.tmm_model.specs.declared.premise.Premise.TheVariants.{Class, Kind, Point, Event, Token, Span, Dist, Rule, Protect, Against}
use Rattle.tmm_model.specs.declared.premise.Edit.{Edit}
use Rattle.tmm_model.specs.declared.premise.Edit.TheVariants.{Add, Erase, Horizon, Upgrade}
use Rattle.tmm_model.specs.declared.version.Version.{Version}
use Rattle.tmm_model.specs.declared.version.Version.TheVariants.{One, Two}
use Rattle.tmm_model.specs.declared.line.Query.{Query}
use Rattle.tmm_model.specs.declared.line.Query.TheVariants.{Bounds, Path, Ask, Why, Check, List as Listing, Dump, Audit, Size}
use Rattle.tmm_model.specs.declared.line.Line.{Line}
use Rattle.tmm_model.specs.declared.line.Line.TheVariants.{Silent, Change, Question}
use Rattle.tmm_model.specs.Names.{is_name}
use Rattle.tmm_model.specs.Points.{same_name}
use Rattle.tmm_model.specs.Lines.{is_comment, is_unless}

infixl 10 ◌>>=◌
-- what is read next, where something was read
abbrev pub ◌>>=◌ : {A B : Type 0} → Option A → (A → Option B) → Option B
(Some x) >>= f = f x
None >>= f = None

-- the value where it passes
abbrev pub passing : {A : Type 0} → Bool → A → Option A
passing true x = Some x
passing false x = None

-- the value where nothing is left
abbrev pub ended : {A B : Type 0} → A → List B → Option A
ended x [] = Some x
ended x (_ ∷ _) = None

-- what the first word reads as, and the words behind it
abbrev pub front : {A : Type 0} → (List ℕ → Option A) → List (List ℕ) → Option (A × List (List ℕ))
front read [] = None
front read (w ∷ ws) = read w >>= λ x. Some (x, ws)

-- what a word and no other reads as
abbrev pub alone : {A : Type 0} → (List ℕ → Option A) → List (List ℕ) → Option A
alone read ws = front read ws >>= λ x. ended x.0 x.1

-- what a word and then the words behind it read as
abbrev pub both : {A B : Type 0} → (List ℕ → Option A) → (List (List ℕ) → Option B) → List (List ℕ) → Option (A × B)
both read rest ws = front read ws >>= λ x. rest x.1 >>= λ y. Some (x.0, y)

-- ---- words

-- a name
abbrev pub name_of : List ℕ → Option (List ℕ)
name_of w = passing (is_name w) w

-- the words where they are at most n names
abbrev pub names_of : ℕ → List (List ℕ) → Option (List (List ℕ))
names_of n ws = passing (list_all is_name ws && nat_le (length ws) n) ws

-- 0 to 9
abbrev pub is_digit : ℕ → Bool
is_digit b = nat_le 48 b && nat_le b 57

-- the number that digits write behind those of n, where it is at most 1,000,000,000
unfoldable pub digits_on : ℕ → List ℕ → Option ℕ
digits_on n [] = Some n
digits_on n (b ∷ bs) = cond (is_digit b && nat_le (n * 10 + (b - 48)) GREATEST_NUMBER) (digits_on (n * 10 + (b - 48)) bs) None

-- a number without a sign
unfoldable pub natural_of : List ℕ → Option ℕ
natural_of [] = None
natural_of (b ∷ bs) = cond (b == 48) (ended 0 bs) (digits_on 0 (b ∷ bs))

-- a number behind a `-`, which is not 0
abbrev pub negative : ℕ → Option ℤ
negative zero = None
negative (suc n) = Some (negsuc n)

-- a number, behind a `-` where it is below zero
unfoldable pub number_of : List ℕ → Option ℤ
number_of [] = None
number_of (b ∷ bs) = cond (b == 45) (natural_of bs >>= negative) (option_map pos (natural_of (b ∷ bs)))

-- a number, or `*` for none
unfoldable pub bound_of : List ℕ → Option Bound
bound_of w = cond (same_name w (codes "*")) (Some Free) (option_map Finite (number_of w))

-- a name with `.end` behind it
abbrev pub end_of : List ℕ → Option PointName
end_of w = cond (same_name (drop (length w - 4) w) (codes ".end")) (option_map End (name_of (take (length w - 4) w))) None

-- `start`, the point of a name, or the end of a span
unfoldable pub point_of : List ℕ → Option PointName
point_of w = cond (same_name w (codes "start")) (Some Start) (cond (is_name w) (Some (Begin w)) (end_of w))

-- what stands before, between and behind the bytes `/`
unfoldable pub parts : List ℕ → List (List ℕ)
parts w = slice_split (λ b. b == 47) w

-- the parts behind a first byte `/`
abbrev pub parts_behind : List ℕ → List (List ℕ)
parts_behind [] = []
parts_behind (_ ∷ w) = parts w

-- an occurrence of a root and rules
abbrev pub bare : List ℕ → List (List ℕ) → Occ
bare root rules = record { root = root; rules = record { items = rules; room = 0 } }

-- an occurrence by its parts, which are names
abbrev pub occ_from : List (List ℕ) → Option Occ
occ_from [] = None
occ_from (root ∷ rules) = passing (list_all is_name (root ∷ rules)) (bare root rules)

-- an occurrence: a root and rules, parted by `/`
unfoldable pub occ_of : List ℕ → Option Occ
occ_of w = occ_from (parts w)

-- a point of a question: a word with a `/` is an occurrence
unfoldable pub query_point_of : List ℕ → Option QueryPoint
query_point_of w = cond (list_any (λ b. b == 47) w) (option_map Derived (occ_of w)) (option_map Declared (point_of w))

-- a number that may be a horizon
abbrev pub horizon_from : ℤ → Option ℕ
horizon_from (pos n) = passing (nat_le n LAST_HORIZON) n
horizon_from (negsuc _) = None

-- a horizon
unfoldable pub horizon_of : List ℕ → Option ℕ
horizon_of w = number_of w >>= horizon_from

-- ---- the words behind the first one

-- the bounds leave a distance
abbrev pub is_range : Bound → Bound → Bool
is_range (Finite lo) (Finite hi) = int_le lo hi
is_range Free Free = false
is_range _ _ = true

-- a name, and 1 to 8 facts
unfoldable pub class_of : List (List ℕ) → Option Premise
class_of ws = both name_of (names_of 8) ws >>= λ t. passing (nat_le 1 (length t.1)) (Class t.0 (record { items = t.1 }))

-- a name, two points and two bounds that are a range
unfoldable pub dist_of : List (List ℕ) → Option Premise
dist_of ws = both name_of (both point_of (both point_of (both bound_of (alone bound_of)))) ws
    >>= λ t. passing (is_range t.1.1.1.0 t.1.1.1.1) (Dist t.0 t.1.0 t.1.1.0 t.1.1.1.0 t.1.1.1.1)

-- nothing, or a word and 1 to n facts
unfoldable pub facts_of : List ℕ → ℕ → List (List ℕ) → Option (List (List ℕ))
facts_of word n [] = Some []
facts_of word n (w ∷ ws) = cond (same_name w word) (names_of n ws >>= λ facts. passing (nat_le 1 (length facts)) facts) None

-- whether antecedents end at the word: in version 2 they end at `unless`
abbrev pub ends_given : Version → List ℕ → Bool
ends_given One w = false
ends_given Two w = is_unless w

-- the words before the first at which antecedents end
unfoldable pub given_part : Version → List (List ℕ) → List (List ℕ)
given_part version [] = []
given_part version (w ∷ ws) = cond (ends_given version w) [] (w ∷ given_part version ws)

-- this word, and those behind it
unfoldable pub exception_part : Version → List (List ℕ) → List (List ℕ)
exception_part version [] = []
exception_part version (w ∷ ws) = cond (ends_given version w) (w ∷ ws) (exception_part version ws)

-- antecedents with the exceptions that these words tell
abbrev pub with_exceptions : List (List ℕ) → List (List ℕ) → Option (List (List ℕ) × List (List ℕ))
with_exceptions ws given = facts_of (codes "unless") 2 ws >>= λ exceptions. Some (given, exceptions)

-- antecedents and exceptions
unfoldable pub conditions_of : Version → List (List ℕ) → Option (List (List ℕ) × List (List ℕ))
conditions_of version ws = facts_of (codes "if") 4 (given_part version ws) >>= with_exceptions (exception_part version ws)

-- a name, a kind, a delay of at least 1 and a bound that is no less, an effect, antecedents and
-- exceptions
unfoldable pub rule_of : Version → List (List ℕ) → Option Premise
rule_of version ws = both name_of (both name_of (both number_of (both bound_of (both name_of (conditions_of version))))) ws
    >>= λ t. passing (int_le (pos 1) t.1.1.0 && is_range (Finite t.1.1.0) t.1.1.1.0) (Rule t.0 t.1.0 t.1.1.0 t.1.1.1.0 t.1.1.1.1.0 (record { items = t.1.1.1.1.1.0 }) (record { items = t.1.1.1.1.1.1 }))

-- a name, a fact and two points
unfoldable pub protect_of : List (List ℕ) → Option Premise
protect_of ws = option_map (λ t. Protect t.0 t.1.0 t.1.1.0 t.1.1.1) (both name_of (both name_of (both point_of (alone point_of))) ws)

-- one name
unfoldable pub name_alone_of : List (List ℕ) → Option (List ℕ)
name_alone_of = alone name_of

-- two names
unfoldable pub two_names_of : List (List ℕ) → Option (List ℕ × List ℕ)
two_names_of = both name_of (alone name_of)

-- a name, and two facts that differ
unfoldable pub rivals_of : List (List ℕ) → Option Premise
rivals_of ws = both name_of two_names_of ws >>= λ t. passing (not (same_name t.1.0 t.1.1)) (Against t.0 t.1.0 t.1.1)

-- version 2 alone says which facts contradict each other
unfoldable pub against_of : Version → List (List ℕ) → Option Premise
against_of One ws = None
against_of Two ws = rivals_of ws

-- two points of a question
unfoldable pub two_points_of : List (List ℕ) → Option (QueryPoint × QueryPoint)
two_points_of = both query_point_of (alone query_point_of)

-- a fact and two points of a question
unfoldable pub ask_of : List (List ℕ) → Option Query
ask_of ws = option_map (λ t. Ask t.0 t.1.0 t.1.1) (both name_of two_points_of ws)

-- ---- the first word and the words behind it

-- a premise by its first word
unfoldable pub premise_of : Version → List ℕ → List (List ℕ) → Option Premise
premise_of version w ws =
    cond (same_name w (codes "class")) (class_of ws)
    (cond (same_name w (codes "kind")) (option_map Kind (name_alone_of ws))
    (cond (same_name w (codes "point")) (option_map Point (name_alone_of ws))
    (cond (same_name w (codes "event")) (option_map (λ p. Event p.0 p.1) (two_names_of ws))
    (cond (same_name w (codes "token")) (option_map (λ p. Token p.0 p.1) (two_names_of ws))
    (cond (same_name w (codes "span")) (option_map (λ p. Span p.0 p.1) (two_names_of ws))
    (cond (same_name w (codes "dist")) (dist_of ws)
    (cond (same_name w (codes "rule")) (rule_of version ws)
    (cond (same_name w (codes "protect")) (protect_of ws)
    (cond (same_name w (codes "against")) (against_of version ws) None)))))))))

-- the word `2`
abbrev pub two_of : List ℕ → Option Edit
two_of w = passing (same_name w (codes "2")) Upgrade

-- version 1 opens version 2, by the word `2`
unfoldable pub upgrade_of : Version → List (List ℕ) → Option Edit
upgrade_of One ws = alone two_of ws
upgrade_of Two ws = None

-- an edit by its first word
unfoldable pub edit_of : Version → List ℕ → List (List ℕ) → Option Edit
edit_of version w ws =
    cond (same_name w (codes "erase")) (option_map Erase (name_alone_of ws))
    (cond (same_name w (codes "horizon")) (option_map Horizon (alone horizon_of ws))
    (cond (same_name w (codes "tmm")) (upgrade_of version ws)
    (option_map Add (premise_of version w ws))))

-- a question by its first word
unfoldable pub query_of : List ℕ → List (List ℕ) → Option Query
query_of w ws =
    cond (same_name w (codes "ask")) (ask_of ws)
    (cond (same_name w (codes "bounds")) (option_map (λ p. Bounds p.0 p.1) (two_points_of ws))
    (cond (same_name w (codes "path")) (option_map (λ p. Path p.0 p.1) (two_points_of ws))
    (cond (same_name w (codes "why")) (option_map Why (alone occ_of ws))
    (cond (same_name w (codes "check")) (ended Check ws)
    (cond (same_name w (codes "list")) (ended Listing ws)
    (cond (same_name w (codes "dump")) (ended Dump ws)
    (cond (same_name w (codes "audit")) (ended Audit ws)
    (cond (same_name w (codes "size")) (ended Size ws) None))))))))

-- nothing, a comment, an edit or a question
unfoldable pub line_of : Version → List (List ℕ) → Option Line
line_of version [] = Some Silent
line_of version (w ∷ ws) = cond (is_comment w) (Some Silent) (option_or (option_map Change (edit_of version w ws)) (option_map Question (query_of w ws)))
