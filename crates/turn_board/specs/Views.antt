-- What a seat knows, as plain data.
use Rattle.std.specs.Prelude.{
  ℕ,
  ◌+◌,
  ◌-◌,
  Bool,
  true,
  false,
  cond,
  List,
  [],
  length,
  nat_lt,
  Option,
  Some,
  None,
}
use Rattle.turn_board.specs.declared.view.View.{View}

abbrev pub view : {W E : Type 0} → Option W → List E → List E → ℕ → Bool → ℕ → View W E
view world seen shorter_seen share has_state misses = record {
  world = world;
  seen = seen;
  shorter_seen = shorter_seen;
  share = share;
  has_state = has_state;
  misses = misses;
}

-- the view of the opening seat
abbrev pub opening_view : {W E : Type 0} → W → List E → View W E
opening_view world history = view (Some world) history [] 128 false 0

-- the view of a seat that was joined to another
abbrev pub spent_view : {W E : Type 0} → View W E
spent_view = view None [] [] 0 false 0

-- the state was taken, with this history
abbrev pub after_take : {W E : Type 0} → View W E → List E → View W E
after_take v history = view v.world history v.shorter_seen v.share true v.misses

-- the state was given back, with this history
abbrev pub after_give : {W E : Type 0} → View W E → List E → View W E
after_give v history = view v.world history v.shorter_seen v.share false v.misses

-- the state was out with another seat
abbrev pub after_miss : {W E : Type 0} → View W E → View W E
after_miss v = view v.world v.seen v.shorter_seen v.share v.has_state (v.misses + 1)

-- one share less
abbrev pub after_split : {W E : Type 0} → View W E → View W E
after_split v = view v.world v.seen v.shorter_seen (v.share - 1) v.has_state v.misses

-- the one share, for a new seat
abbrev pub split_off : {W E : Type 0} → View W E → View W E
split_off v = view v.world v.seen v.shorter_seen 1 false 0

-- the second list, if it is the longer
abbrev pub longer : {E : Type 0} → List E → List E → List E
longer xs ys = cond (nat_lt (length xs) (length ys)) ys xs

-- the first list, if the second is the longer
abbrev pub shorter : {E : Type 0} → List E → List E → List E
shorter xs ys = cond (nat_lt (length xs) (length ys)) xs ys

-- both shares, and the longer of both histories
abbrev pub after_join : {W E : Type 0} → View W E → View W E → View W E
after_join v w = view v.world (longer v.seen w.seen) (shorter v.seen w.seen) (v.share + w.share)
    v.has_state v.misses

-- 1 where the seat has the state out
abbrev pub out_count : {W E : Type 0} → View W E → ℕ
out_count v = cond v.has_state 1 0
