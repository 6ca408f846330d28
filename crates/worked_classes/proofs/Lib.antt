pub mod SampleFaults
