-- Shares in words, and shares joined.
use Rattle.std.proofs.Common.{◌≡◌, ℕ, ◌%◌, arith}
use Rattle.kit_model.specs.declared.share.Share.{Share}
use Rattle.kit_model.specs.Shares.{FitsWord, share_word, share_of}
use Rattle.kit_model.specs.Laws.{JoinCommutes, JoinAssociates, SharesComeBack, SharesAreWords, WordsShowTheirRound, OldWordsDiffer, ZeroShowsNoRound}

pub join_commutes : JoinCommutes
join_commutes a b = grind arith

pub join_associates : JoinAssociates
join_associates a b c = grind arith

pub shares_come_back_law : SharesComeBack
shares_come_back_law share round fits = grind arith

pub shares_are_words : SharesAreWords
shares_are_words share round word same = grind arith

-- the round in the three top bits
round_shown : (share : Share) (round : ℕ) → FitsWord share → (share_of (share_word share round)).1 ≡ round % 8
round_shown share round fits = omega arith

pub words_show_their_round_law : WordsShowTheirRound
words_show_their_round_law share round other fits =
    let e = round_shown share round fits in (λ h. omega (arith, e, h), λ h. omega (arith, e, h))

pub old_words_differ : OldWordsDiffer
old_words_differ share round fits h = omega (arith, round_shown share round fits, h)

pub zero_shows_no_round : ZeroShowsNoRound
zero_shows_no_round = (λ h. omega (arith, h), λ h. omega (arith, h))
