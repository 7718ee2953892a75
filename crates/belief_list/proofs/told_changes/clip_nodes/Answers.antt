use Rattle.std.proofs.Common.{◌∙◌, ℕ, None, sym, ap, subst}
use Rattle.std.specs.Prelude.{slice_index_or}
use Rattle.std.specs.List.{All}
use Rattle.std.proofs.lemmas.List.Elements.{All-push}
use Rattle.spots.specs.Forest.{IsLive, moment_at}
use Rattle.occ_tree.specs.Places.{forest}
use Rattle.belief_list.specs.declared.kept_rows.Difference.{Difference}
use Rattle.belief_list.specs.Told.{clipped_at}
use Rattle.belief_list.proofs.Neighbours.{with_one, without}
use Rattle.belief_list.proofs.Told.{new_live, clipped_by, clipped_by_none}
use Rattle.belief_list.proofs.told_changes.clip_nodes.Goals as goal
use Rattle.belief_list.proofs.told_changes.clip_nodes.Goals.{in-Some+in_ok-push_pair, in_default}

pub loop-d-preserved : goal.loop-d-preserved
loop-d-preserved c =
    let f = forest c.args.tree.now in
    let at = moment_at f in
    let told = c.args.told.now in
    let i = c.loop-d.d-index in
    let nothing : Difference = record { node = 0; was = None; now = None } in
    let d = slice_index_or told i nothing in
    let old = c.loop-d.pairs.items in
    let new = c.match-new_clip.pairs.items in
    elim c.match-new_clip.branch [
      | in-Some+in_ok-push_pair w ↦
          let grown = ap (λ v. v.items) w.pairs-is ∙ w.in_ok-push_pair.ensures in
          let found = sym c.new_clip.ensures ∙ w.in-Some.is in
          record {
            live = subst (All (λ (p : ℕ × ℕ). IsLive f p.0 × IsLive f p.1)) (sym grown)
                (All-push (λ (p : ℕ × ℕ). IsLive f p.0 × IsLive f p.1) old _ c.loop-d.invariant.live (c.requires i _ c.loop-d-test.true, new_live f _ _ _ found));
            moments = with_one (λ (p : ℕ × ℕ). (at p.0, at p.1)) (clipped_at f) told old new i nothing c.loop-d-test.true c.loop-d.invariant.moments _ grown (clipped_by f d w.in-Some.by found);
          }
      | in_default w ↦
          let stayed = ap (λ v. v.items) w.pairs-is in
          let none = sym c.new_clip.ensures ∙ w.in_default.is in
          record {
            live = subst (All (λ (p : ℕ × ℕ). IsLive f p.0 × IsLive f p.1)) (sym stayed) c.loop-d.invariant.live;
            moments = without (λ (p : ℕ × ℕ). (at p.0, at p.1)) (clipped_at f) told old new i nothing c.loop-d-test.true c.loop-d.invariant.moments stayed (clipped_by_none f d none);
          }
    ]
