use Rattle.py_meaning.proofs.Unions
use Rattle.py_meaning.proofs.laws.unions_have_their_members.Goals as goal

pub returns : goal.returns
returns c = Unions.unions_have_their_members
