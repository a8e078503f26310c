-- The words of a command line that write down a schedule.
use Rattle.std.specs.Prelude.{◌≡◌, ℕ, ◌-◌, ◌≤◌, ◌⊎◌, All, List, [], ◌∷◌, ◌++◌, length, map, replicate, codes, decimal}
use Rattle.std.specs.List.{concat}

-- the letters `a` to `p` name federates 0 to 15
abbrev pub IsLetter : ℕ → Type 0
IsLetter letter = (97 ≤ letter) × (letter ≤ 112)

abbrev pub federate_of : ℕ → ℕ
federate_of letter = letter - 97

-- one or more letters
pub record AreLetters (letters : List ℕ) : Type 0 where
  pub some : 1 ≤ length letters
  pub each : All IsLetter letters

-- the digits of a number from 1 to 1,000,000, without a leading 0
pub record IsCount (digits : List ℕ) (count : ℕ) : Type 0 where
  pub least : 1 ≤ count
  pub most : count ≤ 1000000
  pub written : digits ≡ decimal count

-- `C*` and letters, for C times these letters
pub record IsCounted (word : List ℕ) (times : ℕ) (letters : List ℕ) : Type 0 where
  pub digits : List ℕ
  pub count : IsCount digits times
  pub written : word ≡ digits ++ codes "*" ++ letters

-- letters alone, for once these letters
pub record IsPlain (word : List ℕ) (times : ℕ) (letters : List ℕ) : Type 0 where
  pub once : times ≡ 1
  pub written : word ≡ letters

-- a word for so many times these letters
pub record IsRepetition (word : List ℕ) (times : ℕ) (letters : List ℕ) : Type 0 where
  pub form : IsPlain word times letters ⊎ IsCounted word times letters
  pub letters_are : AreLetters letters

-- the federates of letters, so many times
abbrev pub entries_of : ℕ → List ℕ → List ℕ
entries_of times letters = concat (replicate times (map federate_of letters))

-- A SCHEDULE WORD with its entries
pub record IsScheduleWord (word entries : List ℕ) : Type 0 where
  pub times : ℕ
  pub letters : List ℕ
  pub repetition : IsRepetition word times letters
  pub entries_are : entries ≡ entries_of times letters

-- words with their entries, those of one word after those of another
abbrev pub AreScheduleWords : List (List ℕ) → List ℕ → Type 0
AreScheduleWords [] entries = entries ≡ []
AreScheduleWords (word ∷ words) entries =
    (first rest : List ℕ) × IsScheduleWord word first × AreScheduleWords words rest × (entries ≡ first ++ rest)

-- A SCHEDULE that words write, with 16,777,216 entries at most
pub record IsSchedule (words : List (List ℕ)) (entries : List ℕ) : Type 0 where
  pub words_are : AreScheduleWords words entries
  pub short : length entries ≤ 16777216

-- words have one schedule
abbrev pub OneSchedule : Type 0
OneSchedule = (words : List (List ℕ)) (a b : List ℕ) → IsSchedule words a → IsSchedule words b → a ≡ b
