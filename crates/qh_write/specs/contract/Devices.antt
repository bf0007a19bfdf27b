-- The observable state of the test devices.
use Rattle.std.specs.Prelude.{ℕ, List}
use Rattle.qh_write.specs.declared.{fakes.FailSink.FailSink, fakes.SinkPlan.SinkPlan, mem_sink.MemSink.MemSink}

-- the bytes that the sink received
abbrev pub kept : MemSink → List ℕ
kept s = s.bytes.items

-- the bytes that a sink received before it failed
abbrev pub kept_before_failing : FailSink → List ℕ
kept_before_failing s = s.bytes.items

-- the plan by which the sink fails
abbrev pub plan_of : FailSink → SinkPlan
plan_of s = s.plan
