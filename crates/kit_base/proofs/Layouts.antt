-- Fields that were packed into one word come back.
use Rattle.std.proofs.Common.{arith}
use Rattle.kit_base.specs.Words.{HeadsComeBack, HeadsAreWords, BodiesComeBack, BodiesAreWords}

pub heads_come_back_law : HeadsComeBack
heads_come_back_law m colour fits = grind arith

pub heads_are_words_law : HeadsAreWords
heads_are_words_law m colour word same = grind arith

pub bodies_come_back_law : BodiesComeBack
bodies_come_back_law m fits = grind arith

pub bodies_are_words_law : BodiesAreWords
bodies_are_words_law m word same = grind arith
