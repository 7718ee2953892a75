use Rattle.std.proofs.Common.{◌≡◌, ◌∙◌, true, false, not, sym, ap}
use Rattle.std.specs.List.{list_any}
use Rattle.std.specs.Cmp.Lexicographic.{nat_list_eq_equiv}
use Rattle.tmm_model.specs.Points.{same_name}
use Rattle.list_theory.proofs.Elements.{In-list_any, In-from_Contains}
use Rattle.protections.proofs.reviewing.is_untouched.Goals as goal

pub returns : goal.returns
returns c passed nets others =
    let class = c.in-Some.class in
    let classes = c.args.classes.now in
    record {
      class = class;
      of_class = sym c.class_of.ensures ∙ c.in-Some.is;
      apart = others class
          (λ at.
          (let there : list_any (λ y. same_name y class) classes ≡ true = In-list_any (λ y. same_name y class) classes class (In-from_Contains classes class at) (nat_list_eq_equiv.refl class) in
          let wrong : false ≡ true = ap not (sym (c.contains.ensures.value ∙ there)) ∙ passed in
          cc));
      tokens = c.have_tokens.ensures.rows;
    }
