use Rattle.std.proofs.Common.{◌≤◌, ◌+◌, ◌-◌, ℕ, List, Option, take, drop, length, arith, length-drop, ◌∙◌}
use Rattle.std.proofs.Math.Seq.{take-add}
use Rattle.std.proofs.KnownBytes.{Appends-trans}
use Rattle.std.specs.Io.KnownBytes.{Appends}
use Rattle.std.proofs.lemmas.List.{take_rest}
use Rattle.gw_console.proofs.output.write_text.Goals as goal

-- the first i bytes and then n of the rest are the first i + n
more : (a b c : Option (List ℕ)) (text : List ℕ) (i n : ℕ) → Appends a b (take i text)
    → Appends b c (take n (take (length text - i) (drop i text))) → Appends a c (take (i + n) text)
more a b c text i n first rest =
    let rest-left = rw (take_rest text i) at rest in
    rw (take-add i n text) (Appends-trans a b c (take i text) (take n (drop i text)) first rest-left)

within : (text : List ℕ) (i n : ℕ) → i ≤ length text → n ≤ length (take (length text - i) (drop i text)) → i + n ≤ length text
within text i n low h = let k = rw (take_rest text i) at h in omega (arith, length-drop i text)

pub loop-written-preserved : goal.loop-written-preserved
loop-written-preserved g c = record {
  within = within c.args.text.now c.loop-written.written c.in_ok-count.count c.loop-written.invariant.within c.in_ok-count.ensures.bytes.1;
  front = more _ _ _ c.args.text.now c.loop-written.written c.in_ok-count.count c.loop-written.invariant.front c.in_ok-count.ensures.bytes.2;
  unfailed = c.in_ok-count.ensures.told ∙ c.loop-written.invariant.unfailed;
}
