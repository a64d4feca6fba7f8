-- What is said where an edition is stored, found or listed, by what a walk of the store knows.
use mathlib.Core.Path.{◌≡◌, refl, sym, ap, ◌∙◌}
use mathlib.Core.Bool.{Bool, true, false, not, cond}
use mathlib.Core.List.{List}
use Prim.Native.Nat.{ℕ, ◌-◌, ◌≤◌, ◌<◌}
use native.Mathlib.Omega.{arith}
use borrow.Author.Tests.{le-leb, lt-leb, le-ltb, lt-ltb}
use lib.ListN.{length, length-map}
use Rattle.std.specs.Prelude.{Ok, Err, Option, Some, None}
use Rattle.rules.specs.declared.Refusal.TheVariants.{Room, Unsound, NotRising, NoEdition}
use Rattle.rules.specs.declared.store.Walked.{Walked}
use Rattle.rules.specs.Said.{Said, ruled}
use Rattle.rules.specs.Edition.{number_field, accepted}
use Rattle.rules.specs.Store.{most_editions, editions, is_store, numbers, stored, start_in, least_after, size_of}
use Rattle.rules.specs.Editions.{storing_meets, storing_says, finding_says, listing_says}
use Rattle.laws.specs.StoreWalk.{Ends, named_says}

-- ---- finding

-- what is said of the edition that is named, as an answer
abbrev pub named_said : Said (Option ℕ) → Said ℕ
named_said (Err r) = Err r
named_said (Ok None) = Err NoEdition
named_said (Ok (Some start)) = Ok start

-- Finding says what is said of the edition that is named.
pub finding_named : (named : ℕ) (s : List ℕ) → named_said (named_says named s) ≡ finding_says s named
unfolding named_says finding_says ruled
finding_named named s = by (is_store s) (stored named (editions s)) (start_in named (editions s))
  where
    by : (a b : Bool) (start : ℕ) → named_said (cond a (Ok (cond b (Some start) None)) (Err Unsound)) ≡ cond (not a) (Err Unsound) (cond (not b) (Err NoEdition) (Ok start))
    by true true start = refl
    by true false start = refl
    by false b start = refl

-- ---- storing

module _ (s e : List ℕ) where
  -- What is no store takes no edition.
  pub storing_unsound : is_store s ≡ false → Err Unsound ≡ storing_says s e
  unfolding storing_says storing_meets ruled
  storing_unsound t = simp t

  module _ (w : Walked) (k : Ends s w) where
    -- A store takes none that is not accepted.
    pub storing_refused : accepted e ≡ false → Err Unsound ≡ storing_says s e
    unfolding storing_says storing_meets ruled
    storing_refused a = simp (k.sound, a)

    module _ (a : accepted e ≡ true) where
      -- It takes none whose number is not above the last one's.
      pub storing_low : number_field e < w.least → Err NotRising ≡ storing_says s e
      unfolding storing_says storing_meets ruled
      storing_low low =
          let h : number_field e < least_after 0 (editions s) = omega (arith, k.least_is) in
          simp (k.sound, a, lt-ltb _ _ h)

      module _ (high : w.least ≤ number_field e) where
        allowed : least_after 0 (editions s) ≤ number_field e
        allowed = omega (arith, k.least_is)

        -- It takes no ninth.
        pub storing_full : w.count ≡ most_editions → Err Room ≡ storing_says s e
        unfolding storing_says storing_meets ruled
        storing_full full =
            let h : most_editions ≤ length (editions s) = omega (arith, k.count_is) in
            simp (k.sound, a, le-ltb _ _ allowed, le-leb _ _ h)

        module _ (few : w.count < most_editions) where
          fewer : length (editions s) < most_editions
          fewer = omega (arith, k.count_is)

          -- It takes none for which the bytes that are left are too few.
          pub storing_no_room : length s - w.end < length e → Err Room ≡ storing_says s e
          unfolding storing_says storing_meets ruled
          storing_no_room short =
              let h : length s - size_of (editions s) < length e = omega (arith, k.end_is) in
              simp (k.sound, a, le-ltb _ _ allowed, lt-leb _ _ fewer, lt-ltb _ _ h)

          -- It takes any other, where it ends.
          pub storing_stores : length e ≤ length s - w.end → Ok w.end ≡ storing_says s e
          unfolding storing_says storing_meets ruled
          storing_stores room =
              let h : length e ≤ length s - size_of (editions s) = omega (arith, k.end_is) in
              ap Ok k.end_is ∙ simp (k.sound, a, le-ltb _ _ allowed, lt-leb _ _ fewer, le-ltb _ _ h)

-- ---- listing

module _ (s out : List ℕ) where
  -- What is no store has nothing to list.
  pub listing_unsound : is_store s ≡ false → Err Unsound ≡ listing_says s out
  unfolding listing_says ruled
  listing_unsound t = simp t

  module _ (w : Walked) (k : Ends s w) where
    count : w.count ≡ length (numbers (editions s))
    count = k.count_is ∙ sym (length-map (editions s) number_field)

    -- A lent list that is too short is refused.
    pub listing_short : length out < w.count → Err Room ≡ listing_says s out
    unfolding listing_says ruled
    listing_short short =
        let h : length out < length (numbers (editions s)) = omega (arith, count) in
        simp (k.sound, lt-ltb _ _ h)

    -- Any other takes them all.
    pub listing_answers : w.count ≤ length out → Ok w.count ≡ listing_says s out
    unfolding listing_says ruled
    listing_answers room =
        let h : length (numbers (editions s)) ≤ length out = omega (arith, count) in
        ap Ok k.count_is ∙ simp (k.sound, le-ltb _ _ h)
