use Rattle.row_cases.proofs.tests.shapes.add_unfollowed.Goals as goal

pub intern-requires-clause-receiver : goal.intern-requires-clause-receiver
intern-requires-clause-receiver c = c.in_ok-given_class.ensures.there _
