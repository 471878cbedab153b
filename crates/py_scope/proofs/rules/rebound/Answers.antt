use Rattle.std.proofs.Common.{◌≡◌, ◌∙◌, ◌&&◌, ◌||◌, ap, take}
use Rattle.scope_rules.specs.declared.fault.Rule.TheVariants as rule
use Rattle.scope_rules.specs.NameLists.{has_name, with_name_if}
use Rattle.scope_rules.specs.Named.{mentioned}
use Rattle.scope_rules.specs.Roles.{binds, is_definition}
use Rattle.scope_rules.specs.Rules.{rebinds}
use Rattle.scope_rules.proofs.MentionLemmas.{named_step, has_named, faults_step}
use Rattle.py_scope.proofs.rules.rebound.Goals as goal

pub loop-m-preserved : goal.loop-m-preserved
loop-m-preserved c =
    let ms = c.args.mentions.now in
    let i = c.loop-m.m-index in
    let m = c.m-item.result in
    let defined = has_named is_definition (take i ms) c.loop-m.defined m.name c.loop-m.invariant.defined in
    let bound = has_named binds (take i ms) c.loop-m.bound m.name c.loop-m.invariant.bound in
    let broken : c.rebinds.result ≡ rebinds (take i ms) m =
    c.rebinds.ensures
    ∙ ap (λ b. binds m.role && (b || (is_definition m.role && has_name c.loop-m.bound m.name))) defined
    ∙ ap (λ b. binds m.role && (mentioned is_definition m.name (take i ms) || (is_definition m.role && b))) bound
    in
    record {
      faults = faults_step rule.Rebound rebinds ms i m _ _ _ _ c.loop-m-test.true c.m-item.is broken c.in_ok-fault_if.ensures c.loop-m.invariant.faults;
      bound = c.in_ok-insert_if.ensures ∙ ap (λ b. with_name_if b c.loop-m.bound m.name) c.binds.ensures ∙ named_step binds ms i m c.loop-m.bound c.loop-m-test.true c.m-item.is c.loop-m.invariant.bound;
      defined = c.in_ok-insert_if-2.ensures ∙ ap (λ b. with_name_if b c.loop-m.defined m.name) c.is_definition.ensures ∙ named_step is_definition ms i m c.loop-m.defined c.loop-m-test.true c.m-item.is c.loop-m.invariant.defined;
    }
