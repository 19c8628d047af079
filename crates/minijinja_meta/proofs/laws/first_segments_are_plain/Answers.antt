use Rattle.minijinja_meta.proofs.FirstSegments.{first_segments, first_texts, written_segments}
use Rattle.minijinja_meta.proofs.laws.first_segments_are_plain.Goals as goal

pub returns-clause-segments : goal.returns-clause-segments
returns-clause-segments c = λ w. first_segments w

pub returns-clause-written : goal.returns-clause-written
returns-clause-written c = λ w. written_segments w

pub returns-clause-texts : goal.returns-clause-texts
returns-clause-texts c = λ w h. first_texts w h
