-- What clips the nodes, from what is kept of them.
use Rattle.std.proofs.Common.{◌≡◌, ◌∙◌, ℕ, List, [], ◌∷◌, map, refl, sym, ap, subst}
use Rattle.std.specs.Prelude.{Option, IfSome}
use Rattle.std.specs.Option.{option_map}
use Rattle.std.specs.List.{All}
use Rattle.std.proofs.lemmas.List.Elements.{All-nil, All-cons, All-head, All-tail}
use Rattle.tmm_model.specs.Answers.{Row, clip}
use Rattle.tmm_model.specs.Maps.{built}
use Rattle.tmm_model.specs.Standing.{Standing}
use Rattle.spots.specs.Forest.{Forest, IsLive, moment_at}
use Rattle.belief_list.specs.declared.kept_rows.KeptRow.{KeptRow}
use Rattle.belief_list.specs.KeptRows.{AreRowsOf}
use Rattle.belief_list.specs.Told.{clip_of}

module _ (s : Standing) (f : Forest) (rows : ℕ → Option KeptRow) (are : AreRowsOf s f rows) where
  -- **The clips that are kept are those of the map.**
  pub clips_are : (nodes : List ℕ) → All (IsLive f) nodes → map (option_map (moment_at f)) (map (λ x. clip_of (rows x)) nodes) ≡ map (λ x. clip (built s) (moment_at f x)) nodes
  clips_are [] live = refl
  clips_are (x ∷ nodes) live =
      let (r, at, is) = are.own x (All-head (IsLive f) x nodes live) in
      let first : option_map (moment_at f) (clip_of (rows x)) ≡ clip (built s) (moment_at f x) = ap (λ o. option_map (moment_at f) (clip_of o)) at ∙ ap (λ (w : Row). w.clip) is.told in
      let rest = clips_are nodes (All-tail (IsLive f) x nodes live) in
      λ i. first i ∷ rest i

  pub clips_live : (nodes : List ℕ) → All (IsLive f) nodes → All (λ c. IfSome c (IsLive f)) (map (λ x. clip_of (rows x)) nodes)
  clips_live [] live = All-nil (λ c. IfSome c (IsLive f))
  clips_live (x ∷ nodes) live =
      let (r, at, is) = are.own x (All-head (IsLive f) x nodes live) in
      All-cons (λ c. IfSome c (IsLive f)) (clip_of (rows x)) (map (λ x. clip_of (rows x)) nodes)
      (subst (λ (o : Option KeptRow). IfSome (clip_of o) (IsLive f)) (sym at) is.clip)
      (clips_live nodes (All-tail (IsLive f) x nodes live))
