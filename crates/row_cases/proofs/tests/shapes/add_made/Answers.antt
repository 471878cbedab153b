use Rattle.row_cases.proofs.tests.shapes.add_made.Goals as goal

pub intern-requires-5-clause-receiver : goal.intern-requires-5-clause-receiver
intern-requires-5-clause-receiver c = c.in_ok-given_class.ensures.there _

pub intern-requires-6-clause-receiver : goal.intern-requires-6-clause-receiver
intern-requires-6-clause-receiver c = c.in_ok-given_class-2.ensures.there _
