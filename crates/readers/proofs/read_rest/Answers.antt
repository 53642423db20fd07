use Rattle.readers.proofs.read_rest.Goals as goal

pub returns-in-Map : goal.returns-in-Map
returns-in-Map c = λ p. rw c.in-Map.is (c.read_second.ensures p)
