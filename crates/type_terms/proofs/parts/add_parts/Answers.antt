use Rattle.type_terms.proofs.PartLemmas.{added_members, added_term}
use Rattle.type_terms.proofs.parts.add_parts.Goals as goal

pub returns-in_ok-append-in-Union : goal.returns-in_ok-append-in-Union
returns-in_ok-append-in-Union c = added_members c.args.all.now.items c.append.new.self.items c.args.member c.in-Union.members c.in-Union.is c.in_ok-append-in-Union.ensures.items

pub returns-in_ok-push-in_default : goal.returns-in_ok-push-in_default
returns-in_ok-push-in_default c = added_term c.args.all.now.items c.push.new.self.items c.args.member c.in_default.not-Union c.in_ok-push-in_default.ensures.items
