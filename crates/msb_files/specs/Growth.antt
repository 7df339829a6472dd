-- What a journal gains when another one is merged, or a run is replayed.
use Rattle.std.specs.Prelude.{◌≡◌, false, not, [], ◌∷◌, ◌++◌, filter}
use Rattle.result_cache.specs.Journal.{Journal, mark, has}

-- each entry is there once, by its mark
abbrev pub AreOnce : Journal → Type 0
AreOnce [] = Unit {0}
AreOnce (e ∷ journal) = (has (mark e) journal ≡ false) × AreOnce journal

-- the entries of another journal that a journal has not
abbrev pub news : Journal → Journal → Journal
news journal other = filter (λ e. not (has (mark e) journal)) other

-- none of the entries is in the journal
abbrev pub AreNew : Journal → Journal → Type 0
AreNew [] journal = Unit {0}
AreNew (e ∷ entries) journal = (has (mark e) journal ≡ false) × AreNew entries journal

-- entries that were not there are put in front
pub record Grows (before after : Journal) : Type 0 where
  pub gained : Journal
  pub in_front : after ≡ gained ++ before
  pub are_new : AreNew gained before
