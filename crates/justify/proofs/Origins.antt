-- What brings a node about, by its row.
use Rattle.std.proofs.Common.{◌≡◌, ◌∙◌, ℕ, List, [], ◌∷◌, ◌++◌, map, Some, sym, ap, subst}
use Rattle.std.specs.List.{Contains}
use Rattle.std.proofs.lemmas.List.{map_push}
use Rattle.tmm_model.specs.declared.point.PointName.TheVariants.{Begin}
use Rattle.tmm_model.specs.Beliefs.{rules_at}
use Rattle.tmm_model.specs.Moments.{At, After, along}
use Rattle.tmm_model.specs.Standing.{Standing}
use Rattle.dist_net.specs.Net.{Net}
use Rattle.spots.specs.declared.link.Link.{Link}
use Rattle.spots.specs.Forest.{Forest, Member, member, IsLive, moment_at, rules_of, last_name}
use Rattle.spots.specs.OfLists.{IsForestOf}
use Rattle.spots.proofs.Nodes.{node_at, moment_at-is, last_name-push}
use Rattle.belief_theory.specs.Right.{Occurs}
use Rattle.belief_theory.proofs.Moments.{along-push}

-- a node without rules is declared under its name
pub declared_at : (f : Forest) (x : ℕ) (m : Member) → member f x ≡ Some m → m.links ≡ [] → (name : List ℕ) → name ≡ last_name m.root m.links → moment_at f x ≡ At (Begin name)
declared_at f x m here none name named =
    moment_at-is f x m here
    ∙ ap (λ (ls : List Link). along (At (Begin m.root)) (map (λ l. l.rule) ls)) none
    ∙ ap (λ (n : List ℕ). At (Begin n)) (sym (named ∙ ap (last_name m.root) none))

-- a node with the rules of another and one more is the effect of that rule
pub effect_at : (f : Forest) (x y : ℕ) (m n : Member) (link : Link) → member f x ≡ Some m → member f y ≡ Some n → n.root ≡ m.root → m.links ≡ n.links ++ link ∷ []
    → (name : List ℕ) → name ≡ last_name m.root m.links → moment_at f x ≡ After (moment_at f y) name
effect_at f x y m n link here there root links name named =
    let rule : link.rule ≡ name = sym (named ∙ ap (last_name m.root) links ∙ last_name-push m.root n.links link) in
    let rules : rules_of m ≡ rules_of n ++ link.rule ∷ [] = ap (map (λ (l : Link). l.rule)) links ∙ map_push (λ (l : Link). l.rule) n.links link in
    let event : along (At (Begin m.root)) (rules_of n) ≡ moment_at f y = ap (λ (r : List ℕ). along (At (Begin r)) (rules_of n)) (sym root) ∙ sym (moment_at-is f y n there) in
    moment_at-is f x m here
    ∙ ap (along (At (Begin m.root))) rules
    ∙ along-push (At (Begin m.root)) (rules_of n) link.rule
    ∙ (λ i. After (event i) (rule i))

-- the rule whose effect a node is stands at the event
pub rule_at : (s : Standing) (net : Net) (f : Forest) → IsForestOf s net f → (x event : ℕ) (rule : List ℕ) → IsLive f x → moment_at f x ≡ After (moment_at f event) rule
    → Contains (rules_at s (moment_at f event)) rule
rule_at s net f seen x event rule live is =
    let (m, here) = node_at f x live in
    (subst (Occurs s) (sym (moment_at-is f x m here) ∙ is) (seen.members x m here).occurs).1
