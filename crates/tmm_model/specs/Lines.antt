-- The grammar of a script line, on the list of the line's words.
use Rattle.std.specs.Prelude.{◌≡◌, ◌≢◌, ℕ, ◌≤◌, ℤ, pos, ◌≤ℤ◌, Bool, false, cond, not, ◌||◌, ◌==◌, List, [], ◌∷◌, ◌++◌, length, codes, decimal, IsTrue}
use Rattle.std.specs.List.{list_all, list_any, onto_first}
use Rattle.std.specs.Fmt.{signed_decimal}
use Rattle.tmm_model.specs.declared.limits.TheConstants.{GREATEST_NUMBER, MOST_FACTS, MOST_ANTECEDENTS, MOST_EXCEPTIONS, LAST_HORIZON}
use Rattle.tmm_model.specs.declared.bound.Bound.{Bound}
use Rattle.tmm_model.specs.declared.bound.Bound.TheVariants.{Finite, Free}
use Rattle.tmm_model.specs.declared.point.PointName.{PointName}
use Rattle.tmm_model.specs.declared.point.PointName.TheVariants.{Start, Begin, End}
use Rattle.tmm_model.specs.declared.point.Occ.{Occ}
use Rattle.tmm_model.specs.declared.point.QueryPoint.{QueryPoint}
use Rattle.tmm_model.specs.declared.point.QueryPoint.TheVariants.{Declared, Derived}
use Rattle.tmm_model.specs.declared.premise.Premise.{Premise}
use Rattle.tmm_model.specs.declared.premise.Premise.TheVariants.{Class, Kind, Point, Event, Token, Span, Dist, Rule, Protect, Against}
use Rattle.tmm_model.specs.declared.premise.Edit.{Edit}
use Rattle.tmm_model.specs.declared.premise.Edit.TheVariants.{Add, Erase, Horizon, Upgrade}
use Rattle.tmm_model.specs.declared.version.Version.{Version}
use Rattle.tmm_model.specs.declared.version.Version.TheVariants.{One, Two}
use Rattle.tmm_model.specs.declared.line.Query.{Query}
use Rattle.tmm_model.specs.declared.line.Query.TheVariants.{Bounds, Path, Ask, Why, Check, List as Listing, Dump, Audit, Size}
use Rattle.tmm_model.specs.declared.line.Line.{Line}
use Rattle.tmm_model.specs.declared.line.Line.TheVariants.{Silent, Change, Question}
use Rattle.tmm_model.specs.Names.{is_name}
use Rattle.tmm_model.specs.Bounds.{IfFinite, IsWithin}
use Rattle.tmm_model.specs.Points.{same_name, point_word, occ_word, query_word}

-- a space, a tab or a carriage return, which part words
abbrev pub is_blank : ℕ → Bool
is_blank b = (b == 32) || (b == 9) || (b == 13)

-- whether a word goes on at the front of the bytes
abbrev pub goes_on : List ℕ → Bool
goes_on [] = false
goes_on (b ∷ _) = not (is_blank b)

-- the words of a line: the longest runs of bytes that are no blanks
unfoldable pub words : List ℕ → List (List ℕ)
words [] = []
words (b ∷ line) = cond (is_blank b) (words line) (cond (goes_on line) (onto_first b (words line)) ((b ∷ []) ∷ words line))

-- the word is a name
abbrev pub IsName : List ℕ → Type 0
IsName w = IsTrue (is_name w)

-- each word is a name
abbrev pub AreNames : List (List ℕ) → Type 0
AreNames ws = IsTrue (list_all is_name ws)

-- the word for a number: `0`, or digits that begin with none, behind a `-` where it is below zero
abbrev pub number_word : ℤ → List ℕ
number_word z = signed_decimal z

-- the word for a bound: a number, or `*` for none
abbrev pub bound_word : Bound → List ℕ
bound_word (Finite z) = number_word z
bound_word Free = codes "*"

-- a number that a line can have: from -1,000,000,000 to 1,000,000,000
abbrev pub IsNumber : ℤ → Type 0
IsNumber z = IsWithin GREATEST_NUMBER z

-- such a number, or none
abbrev pub IsBound : Bound → Type 0
IsBound b = IfFinite b IsNumber

-- a point that a word can name: the word `start` names the point `start` alone
abbrev pub IsWellFormedPoint : PointName → Type 0
IsWellFormedPoint Start = Unit {0}
IsWellFormedPoint (Begin k) = IsName k × (k ≢ codes "start")
IsWellFormedPoint (End k) = IsName k

-- its root and its rules are names
abbrev pub IsWellFormedOcc : Occ → Type 0
IsWellFormedOcc o = IsName o.root × AreNames o.rules.items

-- a derived occurrence has at least one rule
abbrev pub IsWellFormedQueryPoint : QueryPoint → Type 0
IsWellFormedQueryPoint (Declared p) = IsWellFormedPoint p
IsWellFormedQueryPoint (Derived o) = IsWellFormedOcc o × (o.rules.items ≢ [])

-- bounds on a distance: not both are none, and the lower is at most the upper
abbrev pub IsRange : Bound → Bound → Type 0
IsRange (Finite lo) (Finite hi) = lo ≤ℤ hi
IsRange Free Free = ⊥
IsRange _ _ = Unit {0}

-- what a premise can say, in whichever version
abbrev pub IsWellFormedPremise : Premise → Type 0
IsWellFormedPremise (Class name facts) = IsName name × AreNames facts.items × (1 ≤ length facts.items) × (length facts.items ≤ MOST_FACTS)
IsWellFormedPremise (Kind name) = IsName name
IsWellFormedPremise (Point name) = IsName name
IsWellFormedPremise (Event name kind) = IsName name × IsName kind
IsWellFormedPremise (Token name fact) = IsName name × IsName fact
IsWellFormedPremise (Span name fact) = IsName name × IsName fact
IsWellFormedPremise (Dist name from to lo hi) = IsName name × IsWellFormedPoint from × IsWellFormedPoint to × IsBound lo × IsBound hi × IsRange lo hi
IsWellFormedPremise (Rule name trigger lo hi effect given unless_facts) =
    IsName name × IsName trigger × IsNumber lo × IsBound hi × (pos 1 ≤ℤ lo) × IsRange (Finite lo) hi × IsName effect
    × AreNames given.items × (length given.items ≤ MOST_ANTECEDENTS) × AreNames unless_facts.items × (length unless_facts.items ≤ MOST_EXCEPTIONS)
IsWellFormedPremise (Protect name fact from to) = IsName name × IsName fact × IsWellFormedPoint from × IsWellFormedPoint to
IsWellFormedPremise (Against name one other) = IsName name × IsName one × IsName other × (one ≢ other)

-- what an edit can say, in whichever version
abbrev pub IsWellFormedEdit : Edit → Type 0
IsWellFormedEdit (Add premise) = IsWellFormedPremise premise
IsWellFormedEdit (Erase name) = IsName name
IsWellFormedEdit (Horizon n) = n ≤ LAST_HORIZON
IsWellFormedEdit Upgrade = Unit {0}

-- the word is `unless`
abbrev pub is_unless : List ℕ → Bool
is_unless word = same_name word (codes "unless")

-- In version 1 no rule has exceptions, and `unless` is a name as any other. In version 2 the
-- antecedents end at the first word `unless`.
abbrev pub AreFactsOf : Version → List (List ℕ) → List (List ℕ) → Type 0
AreFactsOf One facts exceptions = exceptions ≡ []
AreFactsOf Two facts exceptions = list_any is_unless facts ≡ false

-- what version 2 alone has
abbrev pub IsTwo : Version → Type 0
IsTwo One = ⊥
IsTwo Two = Unit {0}

-- What a premise can say in a version: in version 1 none says which facts contradict each other
-- beyond those of a class.
abbrev pub IsOfVersion : Version → Premise → Type 0
IsOfVersion version (Rule name trigger lo hi effect given unless_facts) = AreFactsOf version given.items unless_facts.items
IsOfVersion version (Against name one other) = IsTwo version
IsOfVersion version premise = Unit {0}

-- version 1 opens version 2
abbrev pub CanUpgrade : Version → Type 0
CanUpgrade One = Unit {0}
CanUpgrade Two = ⊥

-- what an edit can say in a version
abbrev pub IsEditOf : Version → Edit → Type 0
IsEditOf version (Add premise) = IsOfVersion version premise
IsEditOf version Upgrade = CanUpgrade version
IsEditOf version edit = Unit {0}

-- what a question can say
abbrev pub IsWellFormedQuery : Query → Type 0
IsWellFormedQuery (Bounds p q) = IsWellFormedQueryPoint p × IsWellFormedQueryPoint q
IsWellFormedQuery (Path p q) = IsWellFormedQueryPoint p × IsWellFormedQueryPoint q
IsWellFormedQuery (Ask fact p q) = IsName fact × IsWellFormedQueryPoint p × IsWellFormedQueryPoint q
IsWellFormedQuery (Why o) = IsWellFormedOcc o
IsWellFormedQuery _ = Unit {0}

-- facts behind a word, and nothing where there are none
abbrev pub facts_words : List ℕ → List (List ℕ) → List (List ℕ)
facts_words word [] = []
facts_words word (f ∷ facts) = word ∷ f ∷ facts

-- the words that declare a premise
abbrev pub shown : Premise → List (List ℕ)
shown (Class name facts) = codes "class" ∷ name ∷ facts.items
shown (Kind name) = codes "kind" ∷ name ∷ []
shown (Point name) = codes "point" ∷ name ∷ []
shown (Event name kind) = codes "event" ∷ name ∷ kind ∷ []
shown (Token name fact) = codes "token" ∷ name ∷ fact ∷ []
shown (Span name fact) = codes "span" ∷ name ∷ fact ∷ []
shown (Dist name from to lo hi) = codes "dist" ∷ name ∷ point_word from ∷ point_word to ∷ bound_word lo ∷ bound_word hi ∷ []
shown (Rule name trigger lo hi effect given unless_facts) =
    codes "rule" ∷ name ∷ trigger ∷ number_word lo ∷ bound_word hi ∷ effect
    ∷ facts_words (codes "if") given.items ++ facts_words (codes "unless") unless_facts.items
shown (Protect name fact from to) = codes "protect" ∷ name ∷ fact ∷ point_word from ∷ point_word to ∷ []
shown (Against name one other) = codes "against" ∷ name ∷ one ∷ other ∷ []

-- the words that make a change
abbrev pub edit_words : Edit → List (List ℕ)
edit_words (Add premise) = shown premise
edit_words (Erase name) = codes "erase" ∷ name ∷ []
edit_words (Horizon n) = codes "horizon" ∷ decimal n ∷ []
edit_words Upgrade = codes "tmm" ∷ codes "2" ∷ []

-- the words that ask a question
abbrev pub query_words : Query → List (List ℕ)
query_words (Bounds p q) = codes "bounds" ∷ query_word p ∷ query_word q ∷ []
query_words (Path p q) = codes "path" ∷ query_word p ∷ query_word q ∷ []
query_words (Ask fact p q) = codes "ask" ∷ fact ∷ query_word p ∷ query_word q ∷ []
query_words (Why o) = codes "why" ∷ occ_word o ∷ []
query_words Check = codes "check" ∷ []
query_words Listing = codes "list" ∷ []
query_words Dump = codes "dump" ∷ []
query_words Audit = codes "audit" ∷ []
query_words Size = codes "size" ∷ []

-- a word that begins with `#`
abbrev pub is_comment : List ℕ → Bool
is_comment [] = false
is_comment (b ∷ _) = b == 35

-- no word, or a comment
abbrev pub IsSilent : List (List ℕ) → Type 0
IsSilent [] = Unit {0}
IsSilent (w ∷ _) = IsTrue (is_comment w)

-- In a version the words read as what the line says. They read as nothing exactly where they are in
-- no form of its grammar.
abbrev pub Reads : Version → List (List ℕ) → Line → Type 0
Reads version ws Silent = IsSilent ws
Reads version ws (Change edit) = (ws ≡ edit_words edit) × IsWellFormedEdit edit × IsEditOf version edit
Reads version ws (Question query) = (ws ≡ query_words query) × IsWellFormedQuery query

-- the words of the line read as what it says
abbrev pub ReadsLine : Version → List ℕ → Line → Type 0
ReadsLine version line l = Reads version (words line) l

-- each word behind a space
abbrev pub behind_spaces : List (List ℕ) → List ℕ
behind_spaces [] = []
behind_spaces (w ∷ ws) = 32 ∷ w ++ behind_spaces ws

-- the words parted by one space
abbrev pub spaced : List (List ℕ) → List ℕ
spaced [] = []
spaced (w ∷ ws) = w ++ behind_spaces ws

-- the line that declares a premise
abbrev pub shown_text : Premise → List ℕ
shown_text premise = spaced (shown premise)
