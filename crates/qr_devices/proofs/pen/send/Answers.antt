use Rattle.qr_devices.proofs.lemmas.pen.{writes-none, sends-more, sends-again, refused-zero, refused-failed, refused-interrupted}
use Rattle.std.proofs.{Common.{rules, ◌≡◌, ◌<◌, ◌≤◌, ◌+◌, ◌-◌, ℕ, List, min, length, take, drop, refl, arith}, lemmas.List.{length-drop, length-take}}
use Rattle.qr_devices.proofs.pen.send.Goals as goal

-- a write offers some bytes, at most 1,200, and no more than are left
offered : (bytes : List ℕ) (at len : ℕ) → at < length bytes → len ≡ min (length bytes - at) 1200
    → let n = length (take (at + len - at) (drop at bytes)) in (0 < n) × (n ≤ 1200) × (at + n ≤ length bytes)
offered bytes at len lt e = search (rules, length-take, length-drop)

-- the writer accepted no more than was offered
within : (at taken n all : ℕ) → taken ≤ n → at + n ≤ all → at + taken ≤ all
within at taken n all le fits = omega arith

-- one more interrupted write may be tried again
again : (interruptions : ℕ) → interruptions < 1000 → (interruptions ≡ 999 → ⊥) → interruptions + 1 < 1000
again interruptions lt ne = omega arith

pub offers-init : goal.offers-init
offers-init g c = search (rules, writes-none)

pub returns-then-taken-eq0-clause-writes : goal.returns-then-taken-eq0-clause-writes
returns-then-taken-eq0-clause-writes g c =
    let o = offered c.args.bytes.now c.offers.at c.min-len.result c.offers-test.true c.min-len.ensures in
    refused-zero _ _ _ _ _ _ _ _ _ c.if-taken-eq0.true c.offers.invariant.writes o.0 o.1 c.in-Ok.ensures.bytes c.in-Ok.ensures.counted c.in-Ok.ensures.buffer

pub offers-preserved-in-Ok : goal.offers-preserved-in-Ok
offers-preserved-in-Ok g c =
    record {
      within = search rules;
      few = c.offers.invariant.few;
      writes = sends-more _ _ _ _ c.offers.at (c.offers.at + c.min-len.result - c.offers.at) _ _ _ _ c.offers.invariant.writes
          c.in-Ok.ensures.bound (offered c.args.bytes.now c.offers.at c.min-len.result c.offers-test.true c.min-len.ensures).1 c.if-taken-eq0.false refl c.in-Ok.ensures.bytes c.in-Ok.ensures.counted c.in-Ok.ensures.buffer c.in-Ok.ensures.rest;
    }

pub offers-preserved : goal.offers-preserved
offers-preserved g c =
    let few = again c.offers.interruptions c.offers.invariant.few c.if-interruptions-eq-INTERRUPTIONS_MAX.false in
    record {
      within = c.offers.invariant.within;
      few = few;
      writes = sends-again _ _ _ _ _ _ _ c.offers.invariant.writes (offered c.args.bytes.now c.offers.at c.min-len.result c.offers-test.true c.min-len.ensures).1 few
          c.in-Err-Interrupted.ensures.bytes (rw c.in-Err-Interrupted.field-0-is at c.in-Err-Interrupted.ensures.counted) c.in-Err-Interrupted.ensures.buffer c.in-Err-Interrupted.ensures.rest;
    }

pub returns-then-interruptions-eq-INTERRUPTIONS_MAX-clause-writes :
    goal.returns-then-interruptions-eq-INTERRUPTIONS_MAX-clause-writes
returns-then-interruptions-eq-INTERRUPTIONS_MAX-clause-writes g c =
    refused-interrupted _ _ _ _ _ _ _ _ c.if-interruptions-eq-INTERRUPTIONS_MAX.true c.offers.invariant.writes (offered c.args.bytes.now c.offers.at c.min-len.result c.offers-test.true c.min-len.ensures).1
    c.in-Err-Interrupted.ensures.bytes (rw c.in-Err-Interrupted.field-0-is at c.in-Err-Interrupted.ensures.counted) c.in-Err-Interrupted.ensures.buffer

pub returns-in-Err-Failed-clause-writes : goal.returns-in-Err-Failed-clause-writes
returns-in-Err-Failed-clause-writes g c =
    refused-failed _ _ _ _ _ _ _ _ c.offers.invariant.writes (offered c.args.bytes.now c.offers.at c.min-len.result c.offers-test.true c.min-len.ensures).1
    c.in-Err-Failed.ensures.bytes (search rules) c.in-Err-Failed.ensures.buffer
