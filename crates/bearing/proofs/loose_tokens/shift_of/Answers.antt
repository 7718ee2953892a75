use Rattle.std.proofs.Common.{◌∙◌, true, refl, sym, subst, inl, inr}
use Rattle.std.proofs.lemmas.List.Elements.{All-nil}
use Rattle.std.specs.List.{Contains}
use Rattle.std.specs.Prelude.{negsuc}
use Rattle.dist_net.specs.Net.{Net}
use Rattle.bearing.specs.declared.walls.FastToken.{FastToken}
use Rattle.bearing.specs.Places.{TellsWithin}
use Rattle.bearing.specs.Shifts.{AreBehind}
use Rattle.bearing.proofs.Shifted.{not_some}
use Rattle.bearing.proofs.loose_tokens.shift_of.Goals as goal

pub returns-then-is_some : goal.returns-then-is_some
returns-then-is_some c =
    let place = c.args.place in
    let tokens = c.args.tokens.now in
    let none = λ (net : Net). All-nil (λ (t : FastToken). Contains tokens t × TellsWithin net t.place place (negsuc 0) true) in
    record {
      at = refl;
      before = subst (AreBehind c.args.net.now.committed place tokens) (sym c.new.ensures.items) (none c.args.net.now.committed);
      after = subst (AreBehind c.args.net.now.present place tokens) (sym c.new-then-is_some.ensures.items) (none c.args.net.now.present);
      spans = inr (c.new.ensures.items, c.new-then-is_some.ensures.items);
    }

pub returns : goal.returns
returns c = record {
  at = refl;
  before = c.in_ok-before.ensures;
  after = c.in_ok-after.ensures;
  spans = inl (not_some c.args.end (sym c.is_some.ensures ∙ c.if-is_some.false));
}
