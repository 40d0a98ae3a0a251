-- Truth values: what a conjunction and an implication say.
-- `and_left`, `and_right`, `and_both` · `then-of`, `of-then`.
-- Assumes nothing.
use Rattle.std.specs.Prelude.{Bool, true, false, ◌&&◌, not, ◌||◌, T}

pub and_left : (s t : Bool) → T (s && t) → T s
and_left true t h = tt
and_left false t h = h

pub and_right : (s t : Bool) → T (s && t) → T t
and_right true t h = h
and_right false t h = absurd h

pub and_both : (s t : Bool) → T s → T t → T (s && t)
and_both true t h k = k
and_both false t h k = h

pub then-of : (s t : Bool) → T (not s || t) → T s → T t
then-of true t h k = h
then-of false t h k = absurd k

pub of-then : (s t : Bool) → (T s → T t) → T (not s || t)
of-then true t h = h tt
of-then false t h = tt
