-- The lemmas that other crates use.
pub use Rattle.qr_devices.proofs.lemmas.pen.{emptied, formed, stops-before, stops-between, stops-first, Written, writes-none, writes-on, writes-stop, written}
pub use Rattle.qr_devices.proofs.lemmas.buffer.{filled}
