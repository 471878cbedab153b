use Rattle.std.proofs.Common.{sym, ◌∙◌, true≢false}
use Rattle.std.proofs.lemmas.Result.{IfOk-weaker}
use Rattle.place_ids.specs.Names.{number_in}
use Rattle.place_ids.proofs.NamesLemmas.{has_name-at, has_name-unfound, text-at-number_in, number_in-absent, with_name-there, with_name-new, added_at}
use Rattle.place_ids.proofs.names.Names.intern.Goals as goal

pub add-requires : goal.add-requires
add-requires c = has_name-unfound c.args.self.now c.args.text.now c.in-None.ensures.every

pub returns-in-Some-clause-interned : goal.returns-in-Some-clause-interned
returns-in-Some-clause-interned c =
    sym (with_name-there c.args.self.now c.args.text.now (has_name-at c.args.self.now c.args.text.now c.in-Some.id c.in-Some.ensures.found))

pub returns-in-Some-clause-numbered : goal.returns-in-Some-clause-numbered
returns-in-Some-clause-numbered c =
    let there = has_name-at c.args.self.now c.args.text.now c.in-Some.id c.in-Some.ensures.found in
    let same = c.in-Some.ensures.every (number_in c.args.self.now c.args.text.now) (text-at-number_in c.args.self.now c.args.text.now there) in
    cc

pub returns-in-Some-clause-full : goal.returns-in-Some-clause-full
returns-in-Some-clause-full c =
    let there = has_name-at c.args.self.now c.args.text.now c.in-Some.id c.in-Some.ensures.found in
    ((λ full. cc), (λ full. absurd (true≢false (sym there ∙ full.0))))

pub returns-in-None-clause-interned : goal.returns-in-None-clause-interned
returns-in-None-clause-interned c =
    let absent = has_name-unfound c.args.self.now c.args.text.now c.in-None.ensures.every in
    IfOk-weaker c.add.result _ _ (λ _ added. added ∙ sym (with_name-new c.args.self.now c.args.text.now absent)) c.add.ensures.interned

pub returns-in-None-clause-numbered : goal.returns-in-None-clause-numbered
returns-in-None-clause-numbered c =
    let absent = has_name-unfound c.args.self.now c.args.text.now c.in-None.ensures.every in
    IfOk-weaker c.add.result _ _ (λ _ last. last ∙ sym (number_in-absent c.args.self.now c.args.text.now absent)) c.add.ensures.numbered

pub returns-in-None-clause-named : goal.returns-in-None-clause-named
returns-in-None-clause-named c = added_at c.args.self.now c.add.new.self c.args.text.now c.add.result c.add.ensures.interned c.add.ensures.numbered

pub returns-in-None-clause-full : goal.returns-in-None-clause-full
returns-in-None-clause-full c =
    let absent = has_name-unfound c.args.self.now c.args.text.now c.in-None.ensures.every in
    ((λ full. (absent, c.add.ensures.full.0 full)), (λ full. c.add.ensures.full.1 full.1))

pub returns-in-None-clause-known : goal.returns-in-None-clause-known
returns-in-None-clause-known c = λ there. absurd (true≢false (sym there ∙ has_name-unfound c.args.self.now c.args.text.now c.in-None.ensures.every))
