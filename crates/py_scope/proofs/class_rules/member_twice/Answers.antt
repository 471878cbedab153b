use Rattle.std.proofs.Common.{◌≡◌, ◌∙◌, ◌&&◌, ap, take}
use Rattle.scope_rules.specs.declared.fault.Rule.TheVariants as rule
use Rattle.scope_rules.specs.NameLists.{with_name_if}
use Rattle.scope_rules.specs.Roles.{binds}
use Rattle.scope_rules.specs.Rules.{binds_again}
use Rattle.scope_rules.proofs.MentionLemmas.{named_step, has_named, faults_step}
use Rattle.py_scope.proofs.class_rules.member_twice.Goals as goal

pub loop-m-preserved : goal.loop-m-preserved
loop-m-preserved c =
    let ms = c.args.mentions.now in
    let i = c.loop-m.m-index in
    let m = c.m-item.result in
    let broken : c.binds_again.result ≡ binds_again (take i ms) m = c.binds_again.ensures ∙ ap (λ b. binds m.role && b) (has_named binds (take i ms) c.loop-m.seen m.name c.loop-m.invariant.seen) in
    record {
      faults = faults_step rule.MethodRule binds_again ms i m _ _ _ _ c.loop-m-test.true c.m-item.is broken c.in_ok-fault_if.ensures c.loop-m.invariant.faults;
      seen = c.in_ok-insert_if.ensures ∙ ap (λ b. with_name_if b c.loop-m.seen m.name) c.binds.ensures ∙ named_step binds ms i m c.loop-m.seen c.loop-m-test.true c.m-item.is c.loop-m.invariant.seen;
    }
