use Rattle.std.proofs.Common.{◌≡◌, ◌∙◌, ◌&&◌, ap}
use Rattle.scope_rules.specs.declared.fault.Rule.TheVariants as rule
use Rattle.scope_rules.specs.Roles.{binds, is_name}
use Rattle.scope_rules.specs.Rules.{reads_member}
use Rattle.scope_rules.proofs.MentionLemmas.{has_named, faults_at_step}
use Rattle.py_scope.proofs.class_rules.member_reads.Goals as goal

pub loop-m-preserved : goal.loop-m-preserved
loop-m-preserved c =
    let ms = c.args.mentions.now in
    let i = c.loop-m.m-index in
    let m = c.m-item.result in
    let broken : c.reads_member.result ≡ reads_member ms m = c.reads_member.ensures ∙ ap (λ b. is_name m.role && b) (has_named binds ms _ m.name c.in_ok-bound.ensures) in
    faults_at_step rule.MethodRule (reads_member ms) ms i m _ _ _ _ c.loop-m-test.true c.m-item.is broken c.in_ok-fault_if.ensures c.loop-m.invariant
